use Rattle.std.proofs.Common.{drop, ◌*◌, ◌+◌, ◌≡◌, ◌≤◌}
use Rattle.lists.specs.Trace.{sum}
use Rattle.book.specs.Held.{meant}
use Rattle.state.proofs.size.Given as goal

abbrev pub invariant-loop-r : goal.invariant-loop-r
invariant-loop-r l =
    (l.total ≤ l.book.header.relations + 8 * l.r) × (l.total + sum (drop l.r (meant l.book).arities) ≡ l.book.header.relations + sum (meant l.book).arities)
