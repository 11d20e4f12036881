use Rattle.std.proofs.Common.{arith, refl, ◌+◌, ◌<◌, ◌≤◌, length}
use Rattle.lists.specs.Derivation.{goal}
use Rattle.lists.specs.Instance.{clause_at}
use Rattle.book.specs.Held.{meant}
use Rattle.state.proofs.Shape.{size_is}
use Rattle.reply.specs.Then.{handed}
use Rattle.trace.proofs.Laws.{on_stands, on_fits, going_start, going_done, going-missed, going-stop, going-differs, going_on}
use Rattle.trace.proofs.Claim.walk.Goals.{In_ok-k}
use Rattle.trace.proofs.Claim.walk.Goals as goals

pub first-state-requires : goals.first-state-requires
first-state-requires c =
    let t = c.args.self.now in
    omega (arith, c.relations.ensures, size_is _ _ t.table.now.book.accepted, t.sized.is, c.requires)

pub loop-i-init : goals.loop-i-init
loop-i-init c =
    let t = c.args.self.now in
    going_start _ _ t.table.now.book.accepted (goal t.relation t.values.now) t.list.now t.sized c.relations.ensures c.requires
    c.first-state.ensures.flags c.first-state.ensures.rows

pub returns-in_err-k : goals.returns-in_err-k
returns-in_err-k c =
    let t = c.args.self.now in
    going-stop _ _ t.table.now.book.accepted _ t.list.now t.sized c.loop-i.invariant c.loop-i-test.true c.step_at.ensures
    c.in_err-k.was (handed _ c.from_residual.ensures)

-- the step is taken by clause k: it is there, and so is its next state
stands : (c : In_ok-k) → (c.in_ok-k.k < c.args.self.now.table.now.book.header.count)
    × (c.loop-i.i + 1 + (clause_at (meant c.args.self.now.table.now.book) c.in_ok-k.k).vars + c.args.self.now.size ≤ length c.args.self.now.list.now)
stands c =
    let t = c.args.self.now in
    on_stands _ _ t.table.now.book.accepted t.list.now _ t.sized c.loop-i-test.true _ c.step_at.ensures c.in_ok-k.was

pub put-requires : goals.put-requires
put-requires c = let w = stands (goals.at.put-requires c).In_ok-k in (w.0, omega (arith, w.1))

pub row-row-requires : goals.row-row-requires
row-row-requires c = (stands (goals.at.row-row-requires c).In_ok-k).0

pub differs-d-requires : goals.differs-d-requires
differs-d-requires c =
    let t = c.args.self.now in
    let w = on_fits _ _ t.table.now.book.accepted t.list.now _ t.sized c.loop-i-test.true _ c.step_at.ensures c.in_ok-k.was c.row-row.ensures.says in
    omega (arith, w, t.sized.is)

pub returns-then-d-at : goals.returns-then-d-at
returns-then-d-at c =
    let t = c.args.self.now in
    going-differs _ _ t.table.now.book.accepted _ t.list.now t.sized c.loop-i.invariant c.loop-i-test.true c.step_at.ensures
    c.in_ok-k.was c.row-row.ensures.says c.put.ensures.flags c.put.ensures.rows c.differs-d.ensures c.if-d-at.true c.refuse.ensures

pub loop-i-preserved : goals.loop-i-preserved
loop-i-preserved c =
    let t = c.args.self.now in
    going_on _ _ t.table.now.book.accepted _ t.list.now t.sized c.loop-i.invariant c.loop-i-test.true c.step_at.ensures
    c.in_ok-k.was c.row-row.ensures.says c.put.ensures.flags c.put.ensures.rows c.differs-d.ensures c.if-d-at.false

pub returns-then-holds : goals.returns-then-holds
returns-then-holds c =
    let t = c.args.self.now in
    going_done _ _ t.table.now.book.accepted _ t.list.now t.sized c.loop-i.invariant c.loop-i-test.false c.holds.ensures c.if-holds.true refl

pub returns-else-holds : goals.returns-else-holds
returns-else-holds c =
    let t = c.args.self.now in
    going-missed _ _ t.table.now.book.accepted _ t.list.now t.sized c.loop-i.invariant c.loop-i-test.false c.holds.ensures c.if-holds.false
    c.refuse-else-holds.ensures
