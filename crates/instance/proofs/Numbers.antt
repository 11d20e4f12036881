-- Tests of signed numbers, as the machine makes them of bits.
use Prim.Native.Nat.{ℕ, suc, ◌-◌, ◌^◌, ◌<◌, ◌≤◌}
use native.Mathlib.Omega.{arith}
use mathlib.Core.Path.{◌≡◌, refl, sym, ap, ◌∙◌}
use mathlib.Core.Bool.{Bool, true, false}
use lib.ListN.{length}
use lib.Dec.{T, eqb}
use lib.IntN.{ℤ, pos, negsuc, nat_abs}
use lib.Signed.{mag, le_z, lt_z, non_neg}
use borrow.Author.Tests.{eqb-true, eqb-false, eq-eqb, ne_eqb}
use mir.Syntax.{w32, w64}
use mir.Val.{SFits, Fits, hbits, to_z, of_z}
use mir.Facts.{to_z-of_z}
use Rattle.whole.specs.Whole.{own, fits-small, non_neg-of, pos-is, neg_is}
use Rattle.lists.specs.Compare.{eq_z, inside}
use Rattle.meaning.specs.Book.{Book}
use Rattle.lists.specs.Instance.{clause_number}
use Rattle.instance.specs.Values.{number_or}

module _ (lo hi x : ℤ) where
  pub inside-yes : SFits w32 lo → SFits w32 hi → mag x < 2 ^ hbits w32 → le_z (to_z w32 (of_z w32 lo)) (to_z w32 (of_z w32 x)) ≡ true →
      le_z (to_z w32 (of_z w32 x)) (to_z w32 (of_z w32 hi)) ≡ inside (record { lo = lo; hi = hi }) x
  unfolding inside
  inside-yes f g h e = rw (own w32 x h, to_z-of_z g, simp (own w32 x h, to_z-of_z f) at e)

  pub inside-no : SFits w32 lo → mag x < 2 ^ hbits w32 → le_z (to_z w32 (of_z w32 lo)) (to_z w32 (of_z w32 x)) ≡ false → false ≡ inside (record { lo = lo; hi = hi }) x
  unfolding inside
  inside-no f h e = rw (simp (own w32 x h, to_z-of_z f) at e)

same_bits : (m n : ℕ) → m < 2147483648 → n < 2147483648 → eqb (4294967296 - suc m) (4294967296 - suc n) ≡ eqb m n
same_bits m n h k = go (eqb m n) refl
  where
    go : (t : Bool) → eqb m n ≡ t → eqb (4294967296 - suc m) (4294967296 - suc n) ≡ eqb m n
    go true e = let z : m ≡ n = eqb-true m n e in eq-eqb (4294967296 - suc m) (4294967296 - suc n) (omega arith) ∙ sym e
    go false e = ne_eqb (4294967296 - suc m) (4294967296 - suc n) (λ q. eqb-false m n e (omega arith)) ∙ sym e

pub same_number : (x y : ℤ) → mag x < 2 ^ hbits w32 → mag y < 2 ^ hbits w32 → eqb (of_z w32 x) (of_z w32 y) ≡ eq_z x y
unfolding eq_z
same_number (pos m) (pos n) h k = refl
same_number (pos m) (negsuc n) h k = let a : m < 2147483648 = h in let b : n < 2147483648 = k in ne_eqb m (4294967296 - suc n) (λ q. omega arith)
same_number (negsuc m) (pos n) h k = let a : m < 2147483648 = h in let b : n < 2147483648 = k in ne_eqb (4294967296 - suc m) n (λ q. omega arith)
same_number (negsuc m) (negsuc n) h k = same_bits m n h k

-- a number of a list as a clause's
module _ (n : ℕ) (x : ℤ) (h : mag x < 2 ^ hbits w32) where
  pub number-low : lt_z (to_z w32 (of_z w32 x)) (pos 0) ≡ true → n ≡ number_or n x
  unfolding number_or
  number-low e = rw (neg_is x (rw (own w32 x h) at e))

  pub number-high : lt_z (to_z w32 (of_z w32 x)) (pos 0) ≡ false → nat_abs (to_z w32 (of_z w32 x)) ≡ number_or n x
  unfolding number_or
  number-high e = let z = pos-is x (rw (own w32 x h) at e) in rw (own w32 x h) (sym (ap (number_or n) z))

module _ (b : Book) (x : ℤ) (h : mag x < 2 ^ hbits w32) where
  -- where it names one it is a number
  module _ (k : clause_number b x < length b.clauses) where
    named-fits : T (non_neg x) × (nat_abs x ≤ 2147483648) → T (non_neg x) × Fits w64 (nat_abs x)
    named-fits (p, q) = (p, record { fits = omega arith })

    pub number-fits : T (non_neg (to_z w32 (of_z w32 x))) × Fits w64 (nat_abs (to_z w32 (of_z w32 x)))
    unfolding clause_number
    number-fits = rw (own w32 x h) (named-fits (go x k, (fits-small {w = w32} {z = x} (record { sfits = h })).abs))
      where
        go : (x : ℤ) → clause_number b x < length b.clauses → T (non_neg x)
        go (pos n) k = tt
        go (negsuc n) k = absurd (let z : ⊥ = omega arith in z)

    pub number-is : nat_abs (to_z w32 (of_z w32 x)) ≡ clause_number b x
    unfolding clause_number
    number-is = rw (own w32 x h) (go x k)
      where
        go : (x : ℤ) → clause_number b x < length b.clauses → nat_abs x ≡ clause_number b x
        go (pos n) k = refl
        go (negsuc n) k = absurd (let z : ⊥ = omega arith in z)

pub number_fits : (x : ℤ) → mag x < 2 ^ hbits w32 → lt_z (to_z w32 (of_z w32 x)) (pos 0) ≡ false → T (non_neg (to_z w32 (of_z w32 x))) × Fits w64 (nat_abs (to_z w32 (of_z w32 x)))
number_fits x h e =
    let s = fits-small {w = w32} {z = x} (record { sfits = h }) in
    rw (own w32 x h) (non_neg-of x (rw (own w32 x h) at e), record { fits = let k : nat_abs x ≤ 2147483648 = s.abs in omega arith })

pub ruleset numbers = (inside-yes, inside-no, same_number, number-low, number-high, number_fits)
