-- What a reader's answer says in document 01's numbers: accepted is 0 at 0, with the book that was read; a refusal has its number and place.
use Rattle.std.specs.Prelude.{ℕ, ◌≡◌, List, Ok, Err}
use Rattle.std.proofs.Common.{ap}
use Rattle.meaning.specs.Book.{Book}
use Rattle.book.specs.Read.{read, Reading}
use Rattle.book.specs.Meaning.{book_in}

pub data Answer : Type 0 where
  accepted : Book → Answer
  refused : ℕ → ℕ → Answer

unfoldable pub told : List ℕ → Reading → Answer
told s (Ok h) = accepted (book_in s h)
told s (Err r) = refused r.number r.place

-- what document 01 says of these bytes
unfoldable pub answer : List ℕ → Answer
answer s = told s (read s)

-- the reader's promise
pub record Answers (s : List ℕ) (r : Reading) : Type 0 where
  pub is : r ≡ read s
  pub tells : told s r ≡ answer s

pub answers : (s : List ℕ) (r : Reading) → r ≡ read s → Answers s r
unfolding answer
answers s r e = record { is = e; tells = ap (told s) e }
