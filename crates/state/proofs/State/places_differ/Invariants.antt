use Rattle.std.proofs.Common.{drop, length, ◌+◌, ◌≡◌, ◌≤◌}
use Rattle.lists.specs.Compare.{first_diff}
use Rattle.lists.specs.Trace.{flat, sum}
use Rattle.book.specs.Held.{meant}
use Rattle.state.specs.State.{rows_of}
use Rattle.state.proofs.State.places_differ.Given as goal

abbrev pub invariant-loop-r : goal.invariant-loop-r
invariant-loop-r l =
    (l.p + sum (drop l.r (meant l.book).arities) ≤ length l.list)
    × (first_diff l.p (drop l.p l.list) (flat (rows_of (drop l.r (meant l.book).arities) (drop l.r l.self.rows))) ≡ first_diff l.at (drop l.at l.list) (flat (rows_of (meant l.book).arities l.self.rows)))
