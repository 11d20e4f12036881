use Rattle.std.proofs.Common.{ap, arith}
use Rattle.book.specs.Arities.{relations-are}
use Rattle.put.proofs.Laws.{reline, lines_none, lines_more, lines-all}
use Rattle.script.specs.Lines as lines
use Rattle.part.proofs.Laws.{by_arity}
use Rattle.text.proofs.relations.Goals as goal

pub loop-r-init : goal.loop-r-init
loop-r-init c = lines_none _

pub loop-r-preserved : goal.loop-r-preserved
unfolding by_arity
loop-r-preserved c =
    lines_more _ _ c.loop-r.invariant (reline (ap (lines.relation_lines _) c.arity.ensures.0) c.relation.ensures)

pub returns : goal.returns
unfolding by_arity
returns c =
    let e = relations-are _ _ c.args.book.now.accepted in
    lines-all _ (omega arith) (omega arith) c.loop-r.invariant
