use Rattle.std.proofs.Common.{◌≡◌, ◌≤◌}
use Rattle.meaning.specs.Book.{place_window}
use Rattle.book.specs.Held.{meant}
use Rattle.forth.proofs.Laws.{lows_upto}
use Rattle.forth.proofs.low_rows.Given as goal

abbrev pub invariant-loop-r : goal.invariant-loop-r
invariant-loop-r l = (l.r ≤ 16) × (l.rows ≡ lows_upto (place_window (meant l.book)) l.r)
