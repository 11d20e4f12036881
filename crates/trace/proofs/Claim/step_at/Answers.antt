use Rattle.std.proofs.Common.{refl}
use Rattle.reply.specs.Then.{handed}
use Rattle.instance.proofs.Laws.{giving-refused, giving-done}
use Rattle.trace.proofs.Laws.{step-stop, step-there, step-same, step-met, step-unmet}
use Rattle.trace.proofs.Claim.step_at.Goals as goal

pub returns-in_err-k : goal.returns-in_err-k
returns-in_err-k c =
    let t = c.args.self.now in
    giving-refused _ _ (step-stop _ _ t.table.now.book.accepted t.list.now c.args.i t.sized c.requires c.args.state.now c.instance_at.ensures c.in_err-k.was)
    (handed _ c.from_residual.ensures)

pub meets-requires : goal.meets-requires
meets-requires c =
    let t = c.args.self.now in
    step-there _ _ t.table.now.book.accepted t.list.now c.args.i t.sized c.requires c.args.state.now c.instance_at.ensures c.in_ok-k.was

pub returns-then-meets : goal.returns-then-meets
returns-then-meets c =
    let t = c.args.self.now in
    giving-done _ _
    (step-met _ _ t.table.now.book.accepted t.list.now c.args.i t.sized c.requires c.args.state.now c.instance_at.ensures c.in_ok-k.was c.meets.ensures c.if-meets.true)
    (step-same _ _ t.table.now.book.accepted t.list.now c.args.i t.sized c.requires c.args.state.now c.instance_at.ensures c.in_ok-k.was refl)

pub returns-else-meets : goal.returns-else-meets
returns-else-meets c =
    let t = c.args.self.now in
    giving-refused _ _
    (step-unmet _ _ t.table.now.book.accepted t.list.now c.args.i t.sized c.requires c.args.state.now c.instance_at.ensures c.in_ok-k.was c.meets.ensures c.if-meets.false)
    c.refuse.ensures
