use Rattle.std.proofs.Common.{arith}
use Rattle.book.specs.Joined.{count-is}
use Rattle.put.proofs.Laws.{lines_none, lines_more, lines-all}
use Rattle.text.proofs.Laws.{inputs_at, inputs-held}
use Rattle.text.proofs.all_inputs.Goals as goal

pub loop-k-init : goal.loop-k-init
loop-k-init c = lines_none _

pub loop-k-preserved : goal.loop-k-preserved
loop-k-preserved c =
    lines_more _ _ c.loop-k.invariant (inputs-held _ _ _ c.record.ensures c.inputs.ensures)

pub returns : goal.returns
unfolding inputs_at
returns c =
    let e = count-is _ _ c.args.book.now.accepted in
    lines-all _ (omega arith) (omega arith) c.loop-k.invariant
