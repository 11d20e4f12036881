use Rattle.std.proofs.Common.{arith}
use Rattle.put.proofs.Laws.{each_none, each_more, each_all}
use Rattle.script.specs.Lines as lines
use Rattle.term.specs.Name.{name_of}
use Rattle.term.proofs.Laws.{limits-asked}
use Rattle.text.proofs.Laws.{limits_at}
use Rattle.text.proofs.limits_of.Goals as goal

pub loop-i-init : goal.loop-i-init
loop-i-init c = each_none _

pub loop-i-preserved : goal.loop-i-preserved
unfolding limits_at name_of
loop-i-preserved c =
    each_more _ _ c.loop-i.invariant (limits-asked _ c.place_window.ensures c.limits.ensures)

pub returns : goal.returns
unfolding limits_at lines.place_limits
returns c = each_all _ (omega arith) (omega arith) c.loop-i.invariant
