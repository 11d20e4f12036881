use Rattle.std.proofs.Common.{drop, length, take, ◌+◌, ◌≤◌}
use Rattle.meaning.specs.Book.{place_window}
use Rattle.book.specs.Meaning.{book_in}
use Rattle.instance.proofs.Laws.{Inside}
use Rattle.state.proofs.row_out.Given as goal

abbrev pub invariant-loop-j : goal.invariant-loop-j
invariant-loop-j l = (l.j ≤ l.n) × (l.at + l.n ≤ length l.list) × Inside (place_window (book_in l.book.bytes.now l.book.header) l.r) (take l.n (drop l.at l.list)) l.j
