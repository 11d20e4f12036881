use Rattle.std.proofs.Common.{arith}
use Rattle.sexp.specs.Sexp.{onto}
use Rattle.put.proofs.Laws.{join, each_none, each_more, each_all}
use Rattle.script.specs.Lines as lines
use Rattle.term.specs.Name.{name_of}
use Rattle.text.proofs.denied.Goals as goal

pub loop-r-init : goal.loop-r-init
loop-r-init c = each_none _

pub loop-r-preserved : goal.loop-r-preserved
unfolding lines.denied name_of onto
loop-r-preserved c =
    each_more _ _ c.loop-r.invariant (record { text = join c.put_all.ensures (join c.print.ensures c.put.ensures) })

pub returns : goal.returns
returns c = each_all _ (omega arith) (omega arith) c.loop-r.invariant
