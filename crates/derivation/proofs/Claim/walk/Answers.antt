use Rattle.lists.specs.Derivation.{goal}
use Rattle.reply.specs.Then.{handed}
use Rattle.derivation.proofs.Laws.{going_start, going_done, going-missed, going-stop, going-since, going-below, going_on}
use Rattle.std.proofs.Common.{arith, refl}
use Rattle.derivation.proofs.Claim.walk.Goals as goals

pub loop-i-init : goals.loop-i-init
loop-i-init c = going_start _ _ c.args.self.now.table.now.book.accepted (goal c.args.self.now.relation c.args.self.now.values.now) c.args.self.now.list.now

pub step_at-requires : goals.step_at-requires
step_at-requires c = record { i_in_bounds = c.loop-i-test.true; last = c.loop-i.invariant.stands }

pub returns-in_err-step : goals.returns-in_err-step
returns-in_err-step c =
    going-stop _ _ c.args.self.now.table.now.book.accepted _ c.args.self.now.list.now c.loop-i.invariant c.loop-i-test.true c.step_at.ensures
    c.in_err-step.was (handed _ c.from_residual.ensures)

pub row-requires : goals.row-requires
row-requires c =
    going-below _ _ c.args.self.now.table.now.book.accepted _ c.args.self.now.list.now c.loop-i.invariant c.loop-i-test.true c.step_at.ensures
    c.in_ok-step.was

pub loop-i-preserved : goals.loop-i-preserved
loop-i-preserved c =
    going_on _ _ c.args.self.now.table.now.book.accepted _ c.args.self.now.list.now c.loop-i.invariant c.loop-i-test.true c.step_at.ensures
    c.in_ok-step.was c.row.ensures.says

pub returns-then-ended : goals.returns-then-ended
returns-then-ended c =
    going_done _ _ c.args.self.now.table.now.book.accepted _ c.args.self.now.list.now c.loop-i.invariant c.loop-i-test.false c.ended.ensures c.if-ended.true refl

pub returns-else-ended : goals.returns-else-ended
returns-else-ended c =
    going-missed _ _ c.args.self.now.table.now.book.accepted _ c.args.self.now.list.now c.loop-i.invariant c.loop-i-test.false c.ended.ensures
    c.if-ended.false c.refuse.ensures

pub overflow_add-i : goals.overflow_add-i
overflow_add-i c =
    let t = c.args.self.now in
    record { fits = omega (arith, going-since _ _ t.table.now.book.accepted _ t.list.now c.loop-i.invariant c.loop-i-test.true c.step_at.ensures c.in_ok-step.was) }

pub loop-i-smaller : goals.loop-i-smaller
loop-i-smaller c =
    let t = c.args.self.now in
    omega (arith, going-since _ _ t.table.now.book.accepted _ t.list.now c.loop-i.invariant c.loop-i-test.true c.step_at.ensures c.in_ok-step.was, c.loop-i-test.true)
