-- What an answer about a book says of the reading behind it, and of the parts that are handed out.
use Rattle.std.specs.Prelude.{ℕ, ◌≤◌, ◌≡◌, refl, List, [], length, Ok, Err}
use Rattle.std.proofs.Common.{arith, sym, ap, ◌∙◌, le-ltb}
use Rattle.meaning.specs.Book.{Book}
use Rattle.reply.specs.Answer.{refuse}
use Rattle.cursor.specs.Steps.{pick}
use Rattle.book.specs.declared.Header.{Header}
use Rattle.book.specs.Read.{read, constraint_of, Reading}
use Rattle.book.specs.Meaning.{book_in}
use Rattle.book.specs.Joined.{count-is}
use Rattle.book.specs.Answer.{told, answer, accepted, refused}
use Rattle.reply.specs.Then.{go_on}

-- the header of an accepted book
pub record Headed (s : List ℕ) (b : Book) : Type 0 where
  pub header : Header
  pub good : read s ≡ Ok header
  pub is : book_in s header ≡ b
  pub count : length b.clauses ≡ header.count

pub headed : (s : List ℕ) (b : Book) → answer s ≡ accepted b → Headed s b
unfolding answer told
headed s b e = by (read s) refl e
  where
    by : (r : Reading) → read s ≡ r → told s r ≡ accepted b → Headed s b
    by (Ok h) g q =
        let same : book_in s h ≡ b = cc in
        record { header = h; good = g; is = same; count = ap (λ (x : Book). length x.clauses) (sym same) ∙ count-is s h g }
    by (Err f) g q = absurd (let z : ◌≡◌ {A = ℕ} 0 1 = cc in let w : ⊥ = omega arith in w)

-- the reading of a refused one
pub refused-by : (s : List ℕ) (n p : ℕ) → answer s ≡ refused n p → read s ≡ Err (refuse n p)
unfolding answer told
refused-by s n p e = by (read s) refl e
  where
    by : (r : Reading) → read s ≡ r → told s r ≡ refused n p → read s ≡ Err (refuse n p)
    by (Ok h) g q = absurd (let z : ◌≡◌ {A = ℕ} 0 1 = cc in let w : ⊥ = omega arith in w)
    by (Err f) g q = let a : f.number ≡ n = cc in let b : f.place ≡ p = cc in rw (← a, ← b) g

-- ---- the part is empty for a refused book and for an absent clause

pub part-refused : (s : List ℕ) (n p : ℕ) → answer s ≡ refused n p → (k : ℕ) → constraint_of s k ≡ []
unfolding constraint_of go_on
part-refused s n p e k = rw (refused-by s n p e)

pub part-absent : (s : List ℕ) (b : Book) → answer s ≡ accepted b → (k : ℕ) → length b.clauses ≤ k → constraint_of s k ≡ []
unfolding constraint_of go_on pick
part-absent s b held k far = let w = headed s b held in rw (w.good, le-ltb k w.header.count (omega (arith, w.count)))
