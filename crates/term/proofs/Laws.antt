-- Laws of the names that the code hands on, and of printing a constraint.
use mathlib.Core.Path.{◌≡◌, refl, sym, ap, ◌∙◌}
use mathlib.Core.List.{List, ◌∷◌, ◌++◌}
use Prim.Native.Nat.{ℕ, zero, suc, ◌+◌, ◌*◌, ◌^◌, ◌≤◌, ◌<◌}
use native.Mathlib.Omega.{arith}
use lib.IntN.{ℤ, pos}
use lib.Signed.{mag}
use lib.ListN.{length, get_or}
use mir.Syntax.{Width, w64}
use mir.Val.{hbits, to_z, of_z}
use Rattle.whole.specs.Whole.{Signed, own}
use Rattle.whole.specs.Bytes.{i16_at}
use Rattle.cursor.specs.declared.Atom.{Atom}
use Rattle.cursor.specs.declared.Comparison.{Comparison}
use Rattle.cursor.specs.declared.Comparison.TheVariants.{AtMost, Equal}
use Rattle.cursor.specs.Tree.{coefficients_at, sum_of}
use Rattle.cursor.specs.Sound.{CompareThere}
use Rattle.sexp.specs.Bytes.{bytes}
use Rattle.sexp.specs.Sexp.{Sexps, onto, each, over}
use Rattle.sexp.specs.Split.{each_same}
use Rattle.put.specs.declared.Printer.{Printer}
use Rattle.put.specs.Digits.{digits}
use Rattle.meaning.specs.Book as meant
use Rattle.book.specs.declared.Window.{Window}
use Rattle.book.specs.Windows.{Windowed, window_of, windowed-is}
use Rattle.put.specs.Number.{num}
use Rattle.put.specs.Shows.{Wrote, Shows, Lists}
use Rattle.put.proofs.Laws.{relist, reshow}
use Rattle.script.specs.Names.{flag_name, place_name, input_name}
use Rattle.script.specs.Terms.{limits, product, compared}
use Rattle.term.specs.declared.Name as Name'
use Rattle.term.specs.declared.Name.TheVariants.{Flag, Place, Input}
use Rattle.term.specs.declared.Rule.{Rule}
use Rattle.term.specs.Name.{name_of}
use Rattle.term.specs.Drawn.{zero_of, compared_of}

module _ {p q : Printer} where
  pub name-flag : (n : Name'.Name) {r : ℕ} → n ≡ Flag r → Wrote p q (108 ∷ digits r) → Wrote p q (name_of n)
  unfolding name_of flag_name
  name-flag n h u = rw h u

  pub name-place : (n : Name'.Name) {r i : ℕ} → n ≡ Place r i → Wrote p q (112 ∷ digits r ++ bytes "_" ++ digits i) → Wrote p q (name_of n)
  unfolding name_of place_name
  name-place n h u = rw h u

  pub name-input : (n : Name'.Name) {k i : ℕ} → n ≡ Input k i → Wrote p q (121 ∷ digits k ++ bytes "_" ++ digits i) → Wrote p q (name_of n)
  unfolding name_of input_name
  name-input n h u = rw h u

-- the limits by a window that the code asked for
pub limits-asked : {m : meant.Window} {w : Window} (n : List ℕ) {p q : Printer} → Windowed m w → Lists p q (limits (window_of w) n) → Lists p q (limits m n)
limits-asked n x u = relist (ap (λ (o : meant.Window). limits o n) (windowed-is x)) u

-- ---- a sum

-- a number that was read, handed on as an i64
module _ {w : Width} {x r : ℤ} {p q : Printer} (h : mag r < 2 ^ hbits w64) (s : Signed w x r) where
  pub read-num : Shows p q (num (to_z w64 (of_z w64 r))) → Shows p q (num x)
  read-num u = reshow (ap num (own w64 r h ∙ s.is)) u

  pub read-product : (k i : ℕ) → Lists p q (product k i (to_z w64 (of_z w64 r))) → Lists p q (product k i x)
  read-product k i u = relist (ap (product k i) (own w64 r h ∙ s.is)) u

-- the product of variable i, out of the bytes
unfoldable pub product_at : List ℕ → ℕ → ℕ → ℕ → Sexps
product_at s k p i = product k i (i16_at s (p + i * 2))

pub coefficient-at : (v : ℕ) (s : List ℕ) (p i : ℕ) → i < v → get_or (coefficients_at v s p) i (pos 0) ≡ i16_at s (p + i * 2)
unfolding coefficients_at
coefficient-at zero s p i h = absurd (let z : ⊥ = omega arith in z)
coefficient-at (suc v) s p zero h = ap (i16_at s) (let z : p ≡ p + 0 * 2 = omega arith in z)
coefficient-at (suc v) s p (suc i) h = coefficient-at v s (p + 2) i (omega arith) ∙ ap (i16_at s) (let z : p + 2 + i * 2 ≡ p + suc i * 2 = omega arith in z)

pub coefficients-count : (v : ℕ) (s : List ℕ) (p : ℕ) → length (coefficients_at v s p) ≡ v
unfolding coefficients_at
coefficients-count zero s p = refl
coefficients-count (suc v) s p = ap suc (coefficients-count v s (p + 2))

pub products-are : (s : List ℕ) (k v p : ℕ) → each v (product_at s k p) ≡ over (pos 0) (sum_of s v p).coefficients (product k)
unfolding product_at sum_of
products-are s k v p = rw (coefficients-count v s p) (each_same v _ _ (λ i l. ap (product k i) (sym (coefficient-at v s p i l))))

-- ---- a comparison

module _ (r : Rule) (n : Comparison) {x : Atom} {p q : Printer} where
  pub compared-low : n ≡ AtMost x → Wrote p q (bytes "(<=" ++ zero_of r x.at) → Shows p q (compared_of r n)
  unfolding compared_of compared onto
  compared-low h u = rw h (record { text = u })

  pub compared-nil : n ≡ Equal x → Wrote p q (bytes "(=" ++ zero_of r x.at) → Shows p q (compared_of r n)
  unfolding compared_of compared onto
  compared-nil h u = rw h (record { text = u })

module _ (s : List ℕ) (v : ℕ) (n : Comparison) (x : Atom) (w : CompareThere s v n) where
  pub there-low : n ≡ AtMost x → x.at + (v * 2 + 4) ≤ length s
  there-low h = (rw h at w).there

  pub there-nil : n ≡ Equal x → x.at + (v * 2 + 4) ≤ length s
  there-nil h = (rw h at w).there
