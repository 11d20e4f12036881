use Rattle.std.proofs.Common.{drop, ◌+◌, ◌≡◌}
use Rattle.lists.specs.Trace.{sum}
use Rattle.book.specs.Held.{meant}
use Rattle.state.proofs.Rows.{loaded}
use Rattle.state.proofs.State.first.Given as goal

abbrev pub invariant-loop-r : goal.invariant-loop-r
invariant-loop-r l =
    (l.p + sum (drop l.r (meant l.book).arities) ≡ l.at + sum (meant l.book).arities) × (l.rows ≡ loaded (meant l.book).arities (drop l.at l.list) l.r)
