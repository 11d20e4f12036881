-- The assignments of one clause more.
use mathlib.Core.Path.{◌≡◌, sym, ap, ◌∙◌}
use mathlib.Core.List.{List, [], ◌∷◌}
use Prim.Native.Nat.{ℕ, ◌+◌, ◌<◌, ◌≤◌}
use native.Mathlib.Numerals.{add-one}
use native.Mathlib.Omega.{arith}
use lib.ListN.{get_or, take}
use lib.Seq.{take-suc, take_all}
use Rattle.meaning.specs.Book as meant
use Rattle.meaning.specs.Book.{Book, none_such}
use Rattle.cursor.specs.declared.Clause.{Clause}
use Rattle.cursor.specs.Meaning.{clause_in}
use Rattle.book.specs.declared.Header.{Header}
use Rattle.book.specs.Read.{read}
use Rattle.book.specs.Meaning.{book_in}
use Rattle.book.specs.Joined.{Held, count-is}
use Rattle.book.specs.Windows.{windows_of}
use Rattle.models.specs.Assignments.{count}
use Rattle.models.specs.Walk.{sum, total}
use Rattle.models.proofs.Found.{sum-append}
use Rattle.models.specs.Cap.{cap, cap-small, cap-plus}
use Rattle.std.specs.Prelude.{Ok}

pub total-none : (b : Book) → 0 ≡ cap (sum b [])
unfolding sum
total-none b = sym (cap-small 0 (omega arith))

-- the code's sum of two capped counts stops where the whole sum does
cap-both : (a b : ℕ) → cap (cap a + cap b) ≡ cap (a + b)
cap-both a b =
    let x : cap (a + cap b) ≡ cap (cap b + a) = ap cap (omega arith) in
    let y : cap (b + a) ≡ cap (a + b) = ap cap (omega arith) in
    cap-plus a (cap b) ∙ x ∙ cap-plus b a ∙ y

module _ (s : List ℕ) (h : Header) where
  module _ (k : ℕ) {all : ℕ} where
    pub total-all : read s ≡ Ok h → h.count ≤ k → all ≡ cap (sum (book_in s h) (take k (book_in s h).clauses)) → all ≡ cap (total (book_in s h))
    unfolding total
    total-all good l p = p ∙ rw (take_all k (book_in s h).clauses (omega (arith, count-is s h good)))

    pub total-more : (c : Clause) {n x : ℕ} → read s ≡ Ok h → k < h.count → Held s h k c → all ≡ cap (sum (book_in s h) (take k (book_in s h).clauses)) →
        n ≡ cap (count (windows_of s h k) c.variables) → x ≡ cap (all + n) → x ≡ cap (sum (book_in s h) (take (k + 1) (book_in s h).clauses))
    unfolding sum clause_in
    total-more c {n} good l w p q e =
        let b = book_in s h in
        let one = take-suc b.clauses k none_such (omega (arith, count-is s h good)) in
        let vars : (get_or b.clauses k none_such).vars ≡ c.variables = ap (λ (x : meant.Clause). x.vars) w.is in
        let last : sum b (get_or b.clauses k none_such ∷ []) ≡ count (windows_of s h k) c.variables = rw (← vars) (omega arith) in
        e ∙ rw (add-one k, one, sum-append b (take k b.clauses) (get_or b.clauses k none_such ∷ []), last, p, q)
        (cap-both (sum b (take k b.clauses)) (count (windows_of s h k) c.variables))
