use Rattle.std.proofs.Common.{refl}
use Rattle.derivation.specs.Step.{Stands}
use Rattle.book.specs.Held.{meant}
use Rattle.derivation.proofs.Laws.{stands-below, some-stands, met-first, met-none, met-same, met-other, both-there}
use Rattle.derivation.proofs.Claim.met.Goals as goal
use Rattle.derivation.proofs.Claim.met.Goals.{In-Some-Some}

before : (c : In-Some-Some) → Stands (meant c.args.self.now.table.now.book) c.args.self.now.list.now c.in-Some-Some.before
before c = some-stands _ c.in-Some-Some.is-1 c.requires.last

pub row-row-requires : goal.row-row-requires
row-row-requires c = stands-below _ _ c.args.self.now.table.now.book.accepted c.requires.step

pub row-requires : goal.row-requires
row-requires c = stands-below _ _ c.args.self.now.table.now.book.accepted (before (goal.at.row-requires c).In-Some-Some)

pub returns-in-None-None : goal.returns-in-None-None
returns-in-None-None c = rw c.in-None-None.is-1 (met-first c.args.self.now.list.now _ c.row-row.ensures.says (rw c.in-None-None.is-0 refl))

pub returns-in-Some-None : goal.returns-in-Some-None
returns-in-Some-None c = rw c.in-Some-None.is-1 (met-first c.args.self.now.list.now _ c.row-row.ensures.says (rw c.in-Some-None.is-0 refl))

pub returns-in-None-Some : goal.returns-in-None-Some
returns-in-None-Some c = rw c.in-None-Some.is-1 (met-none c.args.self.now.list.now _ c.row-row.ensures.says _ c.in-None-Some.is-0)

pub returns-then-body-earlier : goal.returns-then-body-earlier
returns-then-body-earlier c =
    rw c.in-Some-Some.is-1 (met-other c.args.self.now.list.now _ c.row-row.ensures.says _ c.row.ensures.says c.in-Some-Some.is-0 c.if-body-earlier.true)

pub same_values-requires : goal.same_values-requires
same_values-requires c =
    both-there c.args.self.now.list.now _ c.row-row.ensures.says _ c.row.ensures.says c.in-Some-Some.is-0 c.if-body-earlier.false c.requires.step
    (before (goal.at.same_values-requires c).In-Some-Some)

pub returns : goal.returns
returns c =
    rw c.in-Some-Some.is-1
    (met-same c.args.self.now.list.now _ c.row-row.ensures.says _ c.row.ensures.says c.in-Some-Some.is-0 c.if-body-earlier.false c.same_values.ensures)
