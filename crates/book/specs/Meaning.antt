-- The meaning's book that accepted bytes hold: clause k is what stands where index entry k says.
use Rattle.std.specs.Prelude.{ℕ, zero, suc, List, [], ◌∷◌, take}
use Rattle.meaning.specs.Book as meant
use Rattle.cursor.specs.Clause.{clause_at}
use Rattle.cursor.specs.Meaning.{clause_or}
use Rattle.book.specs.declared.Header.{Header}
use Rattle.book.specs.Read.{entry_at}

-- f 0, f 1, .. n of them
unfoldable pub up_to : {A : Type 0} → ℕ → (ℕ → A) → List A
up_to zero f = []
up_to (suc n) f = f 0 ∷ up_to n (λ k. f (suc k))

unfoldable pub clause_number : List ℕ → Header → ℕ → meant.Clause
clause_number s h k = clause_or (take h.start s) (clause_at (take h.start s) h.relations (entry_at s h.start k))

unfoldable pub book_in : List ℕ → Header → meant.Book
book_in s h = record {
  arities = take h.relations s;
  clauses = up_to h.count (clause_number s h);
  lo = h.lo;
  hi = h.hi;
  query = h.query;
}
