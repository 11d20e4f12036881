use Rattle.std.proofs.Common.{ap, arith}
use Rattle.book.specs.Arities.{relations-are}
use Rattle.put.proofs.Laws.{relist, each_none, each_more, each_all}
use Rattle.script.specs.Lines as lines
use Rattle.part.proofs.Laws.{by_arity}
use Rattle.part.proofs.frames.Goals as goal

pub loop-r-init : goal.loop-r-init
loop-r-init c = each_none _

pub loop-r-preserved : goal.loop-r-preserved
unfolding by_arity
loop-r-preserved c =
    each_more _ _ c.loop-r.invariant (relist (ap (lines.frame_but _ _) c.arity.ensures.0) c.frame_but.ensures)

pub returns : goal.returns
unfolding by_arity
returns c =
    let e = relations-are _ _ c.args.book.now.accepted in
    each_all _ (omega arith) (omega arith) c.loop-r.invariant
