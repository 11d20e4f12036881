-- Comparing values and facts, and values with their windows.
use Rattle.std.specs.Prelude.{Bool, true, false, ◌&&◌, List, [], ◌∷◌, ℕ, suc, eqb, ℤ, pos, negsuc}
use Rattle.std.proofs.Math.Option.{Option, none, some}
use Rattle.std.specs.Int.Signed.{le_z}
use Rattle.meaning.specs.Book.{Window, Fact}

unfoldable pub eq_z : ℤ → ℤ → Bool
eq_z (pos m) (pos n) = eqb m n
eq_z (pos m) (negsuc n) = false
eq_z (negsuc m) (pos n) = false
eq_z (negsuc m) (negsuc n) = eqb m n

unfoldable pub eq_vals : List ℤ → List ℤ → Bool
eq_vals [] [] = true
eq_vals [] (y ∷ ys) = false
eq_vals (x ∷ xs) [] = false
eq_vals (x ∷ xs) (y ∷ ys) = eq_z x y && eq_vals xs ys

-- two facts, or none, are the same
unfoldable pub same : Option Fact → Option Fact → Bool
same none none = true
same none (some g) = false
same (some f) none = false
same (some f) (some g) = eqb f.rel g.rel && eq_vals f.vals g.vals

unfoldable pub inside : Window → ℤ → Bool
inside w v = le_z w.lo v && le_z v w.hi

-- value 0 lies in window 0, value 1 in window 1, and so on
unfoldable pub all_in : (ℕ → Window) → List ℤ → Bool
all_in w [] = true
all_in w (v ∷ vs) = inside (w 0) v && all_in (λ i. w (suc i)) vs

-- the place of the first value outside, where the first of them is at p
unfoldable pub first_out : (ℕ → Window) → ℕ → List ℤ → ℕ
first_out w p [] = p
first_out w p (v ∷ vs) = elim (inside (w 0) v) [ true ↦ first_out (λ i. w (suc i)) (suc p) vs | false ↦ p ]

-- the first place where a list differs from another, where both start at p
unfoldable pub first_diff : ℕ → List ℤ → List ℤ → ℕ
first_diff p [] ys = p
first_diff p (x ∷ xs) [] = p
first_diff p (x ∷ xs) (y ∷ ys) = elim (eq_z x y) [ true ↦ first_diff (suc p) xs ys | false ↦ p ]
