-- The text of a number by its sign.
use mathlib.Core.Path.{◌≡◌, sym}
use mathlib.Core.Bool.{true, false}
use mathlib.Core.List.{◌++◌, append-nil}
use Prim.Native.Nat.{ℕ, ◌<◌}
use native.Mathlib.Omega.{arith}
use lib.IntN.{ℤ, pos, negsuc, nat_abs}
use lib.Signed.{lt_z}
use mir.Syntax.{w64}
use mir.Val.{SFits, to_z, of_z}
use mir.Facts.{to_z-of_z}
use borrow.Author.Tests.{ltb-true}
use Rattle.sexp.specs.Bytes.{bytes}
use Rattle.sexp.specs.Sexp.{onto, render}
use Rattle.put.specs.Digits.{digits}
use Rattle.put.specs.Number.{num}

below : (n : ℤ) {m : ℕ} → lt_z n (pos 0) ≡ true → m ≡ nat_abs n → bytes "(- " ++ digits m ++ bytes ")" ≡ render (num n)
unfolding num onto
below (negsuc k) l e = rw e
below (pos k) l e = let h : k < 0 = ltb-true k 0 l in absurd (omega arith)

above : (n : ℤ) {m : ℕ} → lt_z n (pos 0) ≡ false → m ≡ nat_abs n → digits m ≡ render (num n)
unfolding num onto
above (pos k) l e = rw e (sym (append-nil _))
above (negsuc k) l e = let z : ◌≡◌ {A = ℕ} 0 1 = cc in absurd (omega arith)

-- the code holds a number by its bits
module _ {n : ℤ} (f : SFits w64 n) {m : ℕ} where
  pub num-neg : lt_z (to_z w64 (of_z w64 n)) (pos 0) ≡ true → m ≡ nat_abs (to_z w64 (of_z w64 n)) → bytes "(- " ++ digits m ++ bytes ")" ≡ render (num n)
  num-neg l e = rw (to_z-of_z f) at (below (to_z w64 (of_z w64 n)) l e)

  pub num_pos : lt_z (to_z w64 (of_z w64 n)) (pos 0) ≡ false → m ≡ nat_abs (to_z w64 (of_z w64 n)) → digits m ≡ render (num n)
  num_pos l e = rw (to_z-of_z f) at (above (to_z w64 (of_z w64 n)) l e)
