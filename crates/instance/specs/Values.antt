-- Values of a list by where they stand: those of a step's variables from a place of the list on, its atoms' arguments from a byte of the book on.
use Rattle.std.specs.Prelude.{ℕ, ◌+◌, ◌<◌, ◌≤◌, List, map, length, get_or, take, drop, ℤ, pos, negsuc}
use Rattle.lists.specs.Instance.{clause_number}
use Rattle.book.specs.declared.Header.{Header}
use Rattle.book.specs.Meaning.{book_in}

-- a list's number as a clause's number; below zero it is n
unfoldable pub number_or : ℕ → ℤ → ℕ
number_or n (pos k) = k
number_or n (negsuc c) = n

-- the clause number that stands at place i of the list l
abbrev pub number_in : List ℕ → Header → List ℤ → ℕ → ℕ
number_in s h l i = clause_number (book_in s h) (get_or l i (pos 0))

-- the values of n arguments from byte p on, where the variables' values stand from place j on
unfoldable pub values_at : List ℕ → List ℤ → ℕ → ℕ → ℕ → List ℤ
values_at s l p j n = map (λ (i : ℕ). get_or l (j + i) (pos 0)) (take n (drop p s))

-- these arguments and their values are there, in a list of m numbers
pub record Valued (s : List ℕ) (m p j n : ℕ) : Type 0 where
  pub there : p + n ≤ length s
  pub each : (i : ℕ) → i < n → j + get_or s (p + i) 0 < m
