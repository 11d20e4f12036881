-- What printing a book owes: its answer, and what it leaves in the room.
use Rattle.std.specs.Prelude.{List, ℕ, get_or}
use Rattle.reply.specs.Answer.{ok}
use Rattle.reply.specs.Room.{Due, kept, written}
use Rattle.meaning.specs.Book.{Clause, none_such}
use Rattle.book.specs.declared.held.Book.{Book}
use Rattle.book.specs.Held.{meant}
use Rattle.book.specs.OnBook.{on_book}
use Rattle.script.specs.Text.{text}

-- of the book's bytes s and the room d: the text of the book, if the room holds it
abbrev pub print_due : List ℕ → List ℕ → Due ℕ
print_due s d = on_book s (kept d) (λ b. written ok (text b) d)

-- clause k of the book, by which the code's parts go
abbrev pub clause_of : Book → ℕ → Clause
clause_of b k = get_or (meant b).clauses k none_such
