use Rattle.std.proofs.Common.{drop, length, ◌+◌, ◌≡◌, ◌≤◌}
use Rattle.meaning.specs.Book.{place_window}
use Rattle.lists.specs.Trace.{sum, cut, first_out_rows}
use Rattle.book.specs.Held.{meant}
use Rattle.state.proofs.Rows.{past}
use Rattle.state.proofs.places_out.Given as goal

abbrev pub invariant-loop-r : goal.invariant-loop-r
invariant-loop-r l =
    (l.p + sum (drop l.r (meant l.book).arities) ≤ length l.list)
    × (first_out_rows (past (place_window (meant l.book)) l.r) l.p (cut (drop l.r (meant l.book).arities) (drop l.p l.list))
    ≡ first_out_rows (place_window (meant l.book)) l.at (cut (meant l.book).arities (drop l.at l.list)))
