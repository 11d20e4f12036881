-- The first place where a list differs from the numbers that are due.
use mathlib.Core.Path.{◌≡◌, refl, sym, ap, ◌∙◌}
use mathlib.Core.Bool.{Bool, true, false}
use mathlib.Core.List.{List, [], ◌∷◌, ◌++◌}
use Prim.Native.Nat.{ℕ, suc, ◌+◌, ◌≤◌, ◌<◌}
use native.Mathlib.Nat.{not-suc-le-zero, le_of_suc-le-suc}
use native.Mathlib.Numerals.{add-one}
use native.Mathlib.Omega.{arith}
use lib.ListN.{length, get_or, take, drop, length-drop, drop_of_length-le}
use lib.Seq.{drop-cons, drop-drop}
use lib.Dec.{leb}
use lib.IntN.{ℤ, pos}
use borrow.Author.Tests.{le-leb, lt-leb}
use Rattle.lists.specs.Compare.{eq_z, eq_vals, first_diff}

-- ---- the first number of each

pub diff-nil : (p : ℕ) (l : List ℤ) → first_diff p l [] ≡ p
unfolding first_diff
diff-nil p [] = refl
diff-nil p (x ∷ l) = refl

module _ (p : ℕ) (x y : ℤ) (xs ys : List ℤ) where
  diff-same : eq_z x y ≡ true → first_diff p (x ∷ xs) (y ∷ ys) ≡ first_diff (suc p) xs ys
  unfolding first_diff
  diff-same e = ap (λ (t : Bool). elim t [ true ↦ first_diff (suc p) xs ys | false ↦ p ]) e

  diff-other : eq_z x y ≡ false → first_diff p (x ∷ xs) (y ∷ ys) ≡ p
  unfolding first_diff
  diff-other e = ap (λ (t : Bool). elim t [ true ↦ first_diff (suc p) xs ys | false ↦ p ]) e

-- by whether two numbers are the same
by-same : {Q : Type 0} (x y : ℤ) → (eq_z x y ≡ true → Q) → (eq_z x y ≡ false → Q) → Q
by-same {Q} x y f g = go (eq_z x y) refl
  where
    go : (t : Bool) → eq_z x y ≡ t → Q
    go true e = f e
    go false e = g e

-- ---- a loop over the numbers that are due, at number j

pub diff-start : (l : List ℤ) (p : ℕ) (due : List ℤ) → first_diff (p + 0) (drop (p + 0) l) (drop 0 due) ≡ first_diff p (drop p l) due
diff-start l p due = let z : p + 0 ≡ p = omega arith in rw z

module _ (l : List ℤ) (p : ℕ) (due : List ℤ) (j : ℕ) where
  pub diff-none : {x : ℕ} → length due ≤ j → x ≡ p + j → x ≡ first_diff (p + j) (drop (p + j) l) (drop j due)
  diff-none h e = rw (drop_of_length-le due h) (e ∙ sym (diff-nil (p + j) (drop (p + j) l)))

  module _ (h : j < length due) (i : p + length due ≤ length l) where
    both : first_diff (p + j) (drop (p + j) l) (drop j due) ≡ first_diff (p + j) (get_or l (p + j) (pos 0) ∷ drop (suc (p + j)) l) (get_or due j (pos 0) ∷ drop (suc j) due)
    both = rw (drop-cons l (p + j) (pos 0) (omega arith), drop-cons due j (pos 0) h)

    pub diff-here : {x : ℕ} {r : Bool} {y : ℤ} → r ≡ eq_z (get_or l (p + j) (pos 0)) y → y ≡ get_or due j (pos 0) → r ≡ false →
        x ≡ p + j → x ≡ first_diff (p + j) (drop (p + j) l) (drop j due)
    diff-here q d t e = e ∙ sym (both ∙ diff-other (p + j) _ _ _ _ (rw d at (sym q ∙ t)))

    pub diff-later : {x : ℕ} {r : Bool} {y : ℤ} → r ≡ eq_z (get_or l (p + j) (pos 0)) y → y ≡ get_or due j (pos 0) → r ≡ true →
        x ≡ first_diff (p + (j + 1)) (drop (p + (j + 1)) l) (drop (j + 1) due) → x ≡ first_diff (p + j) (drop (p + j) l) (drop j due)
    diff-later q d t e =
        let z : p + (j + 1) ≡ suc (p + j) = omega arith in
        rw (z, add-one j) at e ∙ sym (both ∙ diff-same (p + j) _ _ _ _ (rw d at (sym q ∙ t)))

-- ---- numbers that are due in two parts

-- they differ in the first
diff-stop : (p : ℕ) (l due rest : List ℤ) → length due ≤ length l → first_diff p l due < p + length due → first_diff p l (due ++ rest) ≡ first_diff p l due
diff-stop p l [] rest h k = absurd (let z : ⊥ = omega (arith, diff-nil p l) in z)
diff-stop p [] (y ∷ due) rest h k = absurd (not-suc-le-zero h)
diff-stop p (x ∷ l) (y ∷ due) rest h k =
    by-same x y
    (λ e. let s = diff-same p x y l due e in diff-same p x y l (due ++ rest) e ∙ diff-stop (suc p) l due rest (le_of_suc-le-suc h) (omega arith) ∙ sym s)
    (λ e. diff-other p x y l (due ++ rest) e ∙ sym (diff-other p x y l due e))

-- or not
diff-on : (p : ℕ) (l due rest : List ℤ) → length due ≤ length l → p + length due ≤ first_diff p l due
    → first_diff p l (due ++ rest) ≡ first_diff (p + length due) (drop (length due) l) rest
diff-on p l [] rest h k = let z : p + 0 ≡ p = omega arith in rw z
diff-on p [] (y ∷ due) rest h k = absurd (not-suc-le-zero h)
diff-on p (x ∷ l) (y ∷ due) rest h k =
    by-same x y
    (λ e. let s = diff-same p x y l due e in
    let z : suc p + length due ≡ p + suc (length due) = omega arith in
    diff-same p x y l (due ++ rest) e ∙ rw z at (diff-on (suc p) l due rest (le_of_suc-le-suc h) (omega arith)))
    (λ e. absurd (let s = diff-other p x y l due e in let z : ⊥ = omega arith in z))

-- the same of a call's result d, where m numbers are due first
module _ (l : List ℤ) (p : ℕ) (due rest : List ℤ) (m : ℕ) {d x : ℕ} (q : d ≡ first_diff p (drop p l) due) (n : length due ≡ m) (h : p + m ≤ length l) where
  pub parts-stop : d < p + m → x ≡ d → x ≡ first_diff p (drop p l) (due ++ rest)
  parts-stop k e = e ∙ q ∙ sym (diff-stop p (drop p l) due rest (rw length-drop (omega arith)) (omega arith))

  pub parts-on : p + m ≤ d → x ≡ first_diff (p + m) (drop (p + m) l) rest → x ≡ first_diff p (drop p l) (due ++ rest)
  parts-on k e =
      let z : first_diff p (drop p l) (due ++ rest) ≡ first_diff (p + length due) (drop (length due) (drop p l)) rest = diff-on p (drop p l) due rest (rw length-drop (omega arith)) (omega arith) in
      e ∙ sym (rw (drop-drop, n) at z)

-- ---- all are the same where the first that differs lies past them

pub diff-all : (p : ℕ) (l due : List ℤ) → length due ≤ length l → leb (p + length due) (first_diff p l due) ≡ eq_vals (take (length due) l) due
unfolding eq_vals
diff-all p l [] h = le-leb (p + 0) (first_diff p l []) (omega (arith, diff-nil p l))
diff-all p [] (y ∷ due) h = absurd (not-suc-le-zero h)
diff-all p (x ∷ l) (y ∷ due) h =
    by-same x y
    (λ e. let z : p + suc (length due) ≡ suc p + length due = omega arith in
    rw (diff-same p x y l due e, z, e) (diff-all (suc p) l due (le_of_suc-le-suc h)))
    (λ e. rw e (lt-leb (p + suc (length due)) _ (omega (arith, diff-other p x y l due e))))
