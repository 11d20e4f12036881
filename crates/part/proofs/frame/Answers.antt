use Rattle.std.proofs.Common.{arith}
use Rattle.sexp.specs.Sexp.{onto}
use Rattle.put.proofs.Laws.{all, each_none, each_more, each_all}
use Rattle.script.specs.Names.{in_state}
use Rattle.script.specs.Lines as lines
use Rattle.term.specs.Name.{name_of}
use Rattle.part.proofs.frame.Goals as goal

pub loop-i-init : goal.loop-i-init
loop-i-init c = each_none _

pub loop-i-preserved : goal.loop-i-preserved
unfolding lines.kept_place name_of in_state
loop-i-preserved c = each_more _ _ c.loop-i.invariant c.same-in-loop-i.ensures

pub returns : goal.returns
unfolding lines.frame name_of in_state onto
returns c =
    record { text = all c.same.ensures (each_all _ (omega arith) (omega arith) c.loop-i.invariant).text }
