-- A book that was read: what it means, and what reading bytes as one hands on.
use Rattle.std.specs.Prelude.{◌≡◌, List, ℕ, Result, Ok, Err}
use Rattle.meaning.specs.Book as meanings
use Rattle.reply.specs.declared.Refusal.{Refusal}
use Rattle.book.specs.declared.held.Book.{Book}
use Rattle.book.specs.Read.{read}
use Rattle.book.specs.Meaning.{book_in}

-- the meaning's book
abbrev pub meant : Book → meanings.Book
meant b = book_in b.bytes.now b.header

-- the book that these bytes hold, or the refusal of these bytes
abbrev pub Opened : List ℕ → Result Book Refusal → Type 0
Opened s (Ok b) = (b.bytes.now ≡ s) × (read s ≡ Ok b.header)
Opened s (Err r) = read s ≡ Err r
