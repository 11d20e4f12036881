-- The arities of an accepted book: where they stand, and that they are small.
use Prim.Native.Nat.{ℕ, zero, suc, ◌+◌, ◌≤◌, ◌<◌}
use native.Mathlib.Omega.{arith}
use Rattle.std.specs.Prelude.{◌≡◌, List, length, take, Ok}
use Rattle.std.proofs.Math.Path.{refl}
use Rattle.std.proofs.Common.{sym, ◌∙◌, leb-true}
use Rattle.std.proofs.Math.ListN.{get_or}
use Rattle.std.proofs.Math.Seq.{get_or-take, length-take-le}
use Rattle.std.proofs.lemmas.Bool.{eqb-false}
use Rattle.cursor.specs.declared.Cursor.{Cursor}
use Rattle.cursor.specs.Steps.{value_then}
use Rattle.cursor.specs.Inverse.{pick-by, pick-then, at_of, byte-read}
use Rattle.book.specs.declared.Header.{Header}
use Rattle.book.specs.Read.{top_arity, arity_at, arities_at, read}
use Rattle.book.specs.Meaning.{book_in}
use Rattle.book.specs.Joined.{passed}
use Rattle.book.specs.Trailer.{read-trailed}
use Rattle.reply.specs.Then.{went, no_err}

-- k arities from c on, each at most what its relation may have
pub record AreArities (s : List ℕ) (q k : ℕ) (c e : Cursor) : Type 0 where
  pub within : c.at + k ≤ length s
  pub each : (j : ℕ) → j < k → get_or s (c.at + j) 0 ≤ top_arity q (c.at + j)
  pub past : e.at ≡ c.at + k

module _ (s : List ℕ) (q : ℕ) where
  arity-went : (c : Cursor) {e : Cursor} {Q : Type 0} → arity_at s q c ≡ Ok e →
      (c.at < length s → get_or s c.at 0 ≤ top_arity q c.at → e.at ≡ c.at + 1 → Q) → Q
  unfolding arity_at value_then
  arity-went c {e} r k =
      went _ _ _ no_err r λ (b, d) x y.
      pick-then _ _ _ (no_err _) y λ t z.
      let w = byte-read s c x in
      let same : d ≡ e = cc in
      k w.there (rw (← w.is) (leb-true _ _ t)) (at_of (sym same ∙ w.next))

  each_more : (k p : ℕ) → get_or s p 0 ≤ top_arity q p → ((j : ℕ) → j < k → get_or s (p + 1 + j) 0 ≤ top_arity q (p + 1 + j)) →
      (j : ℕ) → j < suc k → get_or s (p + j) 0 ≤ top_arity q (p + j)
  each_more k p t a zero i = let z : p + 0 ≡ p = omega arith in rw z t
  each_more k p t a (suc j) i = let z : p + suc j ≡ p + 1 + j = omega arith in rw z (a j (omega arith))

  pub arities-read : (k : ℕ) (c : Cursor) {e : Cursor} → c.at ≤ length s → arities_at k s q c ≡ Ok e → AreArities s q k c e
  unfolding arities_at
  arities-read zero c {e} h r =
      let same : c ≡ e = cc in
      record { within = omega arith; each = λ j i. absurd (let z : ⊥ = omega arith in z); past = at_of (sym same) ∙ omega arith }
  arities-read (suc k) c h r =
      went _ _ _ no_err r λ d x y.
      arity-went c x λ there top next.
      let a = arities-read k d (omega arith) y in
      record { within = omega (arith, a.within); each = each_more k c.at top (rw next at a.each); past = omega (arith, a.past) }

module _ (s : List ℕ) (h : Header) (good : read s ≡ Ok h) where
  -- they stand at the front of the book
  pub arities-are : (book_in s h).arities ≡ take h.relations s
  unfolding book_in
  arities-are = refl

  pub relations-are : length (book_in s h).arities ≡ h.relations
  unfolding book_in
  relations-are = let k = (read-trailed s h good).kept in length-take-le h.relations s (omega arith)

  pub arity-is : (r : ℕ) → r < h.relations → get_or (book_in s h).arities r 0 ≡ get_or s r 0
  unfolding book_in
  arity-is r b = get_or-take h.relations s r 0 b

  -- relations have at most 8 places, the query none
  arity-top : (r : ℕ) → r < h.relations → get_or s r 0 ≤ top_arity h.query r
  arity-top r b =
      let k = (read-trailed s h good).kept in
      let a = arities-read (take h.start s) h.query h.relations (record { at = 0; left = 0 }) (omega arith) (passed s h good).arities in
      let z : 0 + r ≡ r = omega arith in
      let e : get_or (take h.start s) r 0 ≡ get_or s r 0 = get_or-take h.start s r 0 (omega arith) in
      rw e at (rw z at (a.each r b))

  pub arity-small : (r : ℕ) → r < h.relations → get_or s r 0 ≤ 8
  unfolding top_arity
  arity-small r b = pick-by (λ n. get_or s r 0 ≤ n → get_or s r 0 ≤ 8) _ _ _ (λ t k. omega arith) (λ t k. k) (arity-top r b)

  pub arity-query : get_or s h.query 0 ≡ 0
  unfolding top_arity
  arity-query =
      let k = (read-trailed s h good).kept in
      pick-by (λ n. get_or s h.query 0 ≤ n → get_or s h.query 0 ≡ 0) _ _ _ (λ t k. omega arith) (λ t k. absurd (eqb-false h.query h.query t refl)) (arity-top h.query k.query)
