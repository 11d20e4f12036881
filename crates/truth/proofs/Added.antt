-- The sum as the code adds it up, and the tests of it.
use mathlib.Core.Path.{◌≡◌, refl}
use mathlib.Core.List.{List, [], ◌∷◌}
use mathlib.Core.Bool.{true, false}
use Prim.Native.Nat.{ℕ, zero, suc, ◌+◌, ◌*◌, ◌-◌, ◌%◌, ◌<◌}
use native.Mathlib.Omega.{arith}
use native.Mathlib.Nat.{not-suc-le-zero}
use borrow.Author.Tests.{ltb-true, ne_eqb}
use lib.ListN.{length, get_or, take}
use lib.Dec.{T, eqb}
use lib.IntN.{ℤ, pos, negsuc, nat_abs, ◌+ℤ◌, ◌*ℤ◌}
use lib.Signed.{lt_z, non_neg}
use mir.Syntax.{w64}
use mir.Val.{SFits, of_z}
use Rattle.meaning.specs.Constraint.{plus, is0, leaves}
use Rattle.whole.specs.Bytes.{i16_at}
use Rattle.cursor.specs.Tree.{coefficients_at}

-- z and the first k products
abbrev pub added : List ℕ → ℕ → List ℤ → ℤ → ℕ → ℤ
added s at xs z k = plus z (coefficients_at k s at) (take k xs)

-- the next product comes last
pub added_more : (k : ℕ) (s : List ℕ) (at : ℕ) (xs : List ℤ) (z : ℤ) → k < length xs →
    added s at xs z (suc k) ≡ added s at xs z k +ℤ (i16_at s (at + k * 2) *ℤ get_or xs k (pos 0))
unfolding plus coefficients_at
added_more zero s at [] z h = absurd (let z : ⊥ = omega arith in z)
added_more zero s at (x ∷ xs) z h = let e : at + 0 * 2 ≡ at = omega arith in rw e
added_more (suc k) s at [] z h = absurd (let z : ⊥ = omega arith in z)
added_more (suc k) s at (x ∷ xs) z h =
    let e : at + suc k * 2 ≡ at + 2 + k * 2 = omega arith in
    rw e (added_more k s (at + 2) xs (z +ℤ (i16_at s at *ℤ x)) (omega arith))

-- ---- tests

pub is0-bits : (z : ℤ) → SFits w64 z → eqb (of_z w64 z) 0 ≡ is0 z
unfolding is0
is0-bits (pos n) f = refl
is0-bits (negsuc n) f = let h : n < 9223372036854775808 = f.sfits in ne_eqb (18446744073709551616 - suc n) 0 (λ e. omega arith)

pub leaves-neg : (d r : ℕ) (z : ℤ) → lt_z z (pos 0) ≡ true → leaves d r z ≡ false
unfolding leaves
leaves-neg d r (pos n) e = absurd (not-suc-le-zero (ltb-true n 0 e))
leaves-neg d r (negsuc n) e = refl

pub leaves-pos : (d r : ℕ) (z : ℤ) → T (non_neg z) → eqb (nat_abs z % d) r ≡ leaves d r z
unfolding leaves
leaves-pos d r (pos n) t = refl
leaves-pos d r (negsuc n) t = absurd t
