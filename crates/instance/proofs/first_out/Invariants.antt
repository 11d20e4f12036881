use Rattle.std.proofs.Common.{drop, length, take, ◌+◌, ◌≤◌}
use Rattle.meaning.specs.Book.{variable_window}
use Rattle.lists.specs.Instance.{clause_at}
use Rattle.book.specs.Meaning.{book_in}
use Rattle.instance.proofs.Laws.{Inside}
use Rattle.instance.proofs.first_out.Given as goal

abbrev pub invariant-loop-j : goal.invariant-loop-j
invariant-loop-j l = (l.j ≤ l.v) × (l.from + l.v ≤ length l.list) × Inside (variable_window (book_in l.book l.h) (clause_at (book_in l.book l.h) l.k)) (take l.v (drop l.from l.list)) l.j
