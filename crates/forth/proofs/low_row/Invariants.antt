use Rattle.std.proofs.Common.{◌≡◌, ◌≤◌}
use Rattle.meaning.specs.Book.{place_window}
use Rattle.book.specs.Held.{meant}
use Rattle.forth.proofs.Laws.{low_upto}
use Rattle.forth.proofs.low_row.Given as goal

abbrev pub invariant-loop-j : goal.invariant-loop-j
invariant-loop-j l = (l.j ≤ 8) × (l.row ≡ low_upto (place_window (meant l.book) l.r) l.j)
