use Rattle.derivation.specs.Step.{Stands}
use Rattle.book.specs.Held.{meant}
use Rattle.derivation.proofs.Laws.{stands-below, some-stands, goal-none, goal-other, goal-same, goal-there}
use Rattle.derivation.proofs.Claim.ended.Goals as goal
use Rattle.derivation.proofs.Claim.ended.Goals.{In-Some}

last : (c : In-Some) → Stands (meant c.args.self.now.table.now.book) c.args.self.now.list.now c.in-Some.step
last c = some-stands _ c.in-Some.is c.requires.last

pub row-requires : goal.row-requires
row-requires c = stands-below _ _ c.args.self.now.table.now.book.accepted (last (goal.at.row-requires c).In-Some)

pub returns-in_default : goal.returns-in_default
returns-in_default c = rw c.in_default.is (goal-none _ _ _ _ _)

pub returns-then-head-self : goal.returns-then-head-self
returns-then-head-self c = rw c.in-Some.is (goal-other _ _ c.args.self.now.list.now _ _ _ c.row.ensures.says c.if-head-self.true)

pub values_are-requires : goal.values_are-requires
values_are-requires c =
    goal-there _ _ c.args.self.now.list.now c.args.self.now.relation c.args.self.now.values.now _ c.row.ensures.says c.if-head-self.false c.args.self.now.values_len
    (last (goal.at.values_are-requires c).In-Some)

pub returns : goal.returns
returns c =
    rw c.in-Some.is
    (goal-same _ _ c.args.self.now.list.now _ _ _ c.row.ensures.says c.if-head-self.false c.args.self.now.values_len c.values_are.ensures)
