use Rattle.std.proofs.Common.{ap}
use Rattle.std.specs.Prelude.{Ok}
use Rattle.lists.specs.Derivation.{judge_step}
use Rattle.reply.specs.Then.{handed}
use Rattle.instance.proofs.Laws.{enabled-stop, enabled-met, enabled-unmet, giving-refused, giving-done}
use Rattle.derivation.proofs.Laws.{step-stands, step-same, step-met}
use Rattle.derivation.proofs.Claim.step_at.Goals as goal

pub returns-in_err-clause : goal.returns-in_err-clause
unfolding judge_step
returns-in_err-clause c =
    let t = c.args.self.now in
    giving-refused _ _ (enabled-stop _ _ t.table.now.book.accepted t.list.now c.args.i 0 c.instance_at.ensures _ c.in_err-clause.was) (handed _ c.from_residual.ensures)

pub met-requires : goal.met-requires
met-requires c =
    let t = c.args.self.now in
    record {
      step = step-stands _ _ t.table.now.book.accepted t.list.now c.args.i c.instance_at.ensures c.in_ok-clause.was c.requires.i_in_bounds;
      last = c.requires.last;
    }

pub returns-then-met : goal.returns-then-met
unfolding judge_step
returns-then-met c =
    let t = c.args.self.now in
    let good = t.table.now.book.accepted in
    giving-done _ _
    (enabled-met _ _ good t.list.now c.args.i 0 c.instance_at.ensures c.in_ok-clause.was _
    (step-met _ _ good t.list.now c.args.i c.instance_at.ensures c.in_ok-clause.was _ c.met.ensures) c.if-met.true)
    (ap Ok (step-same _ _ good t.list.now c.args.i c.instance_at.ensures c.in_ok-clause.was))

pub returns-else-met : goal.returns-else-met
unfolding judge_step
returns-else-met c =
    let t = c.args.self.now in
    let good = t.table.now.book.accepted in
    giving-refused _ _
    (enabled-unmet _ _ good t.list.now c.args.i 0 c.instance_at.ensures c.in_ok-clause.was _
    (step-met _ _ good t.list.now c.args.i c.instance_at.ensures c.in_ok-clause.was _ c.met.ensures) c.if-met.false)
    c.refuse.ensures
