-- A list's steps by their places, where z numbers stand after each: none in a derivation, a state in a trace.
use Rattle.std.specs.Prelude.{◌≡◌, List, ℕ, ◌+◌, ◌≤◌, ◌<◌, length, ℤ, Ok}
use Rattle.meaning.specs.Book.{Instance}
use Rattle.lists.specs.Places.{step_here, after, start}
use Rattle.book.specs.declared.Header.{Header}
use Rattle.book.specs.Read.{read}
use Rattle.book.specs.Meaning.{book_in}
use Rattle.instance.specs.Values.{number_in}

-- a step by a clause of the book stands at place i, and z numbers after it
pub record Here (s : List ℕ) (h : Header) (l : List ℤ) (z i : ℕ) : Type 0 where
  pub good : read s ≡ Ok h
  pub inside : i < length l
  pub there : number_in s h l i < h.count
  pub whole : after (book_in s h) z l i ≤ length l

-- from place i to the end of the list stand instances, each with z numbers after it
pub record Walk (s : List ℕ) (h : Header) (l : List ℤ) (z i : ℕ) : Type 0 where
  pub good : read s ≡ Ok h
  pub steps : (k : ℕ) → start (book_in s h) z l i k < length l →
      Instance (book_in s h) (step_here (book_in s h) l (start (book_in s h) z l i k)) × (start (book_in s h) z l i (k + 1) ≤ length l)
