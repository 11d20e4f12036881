-- What is known of a constraint that stands in the bytes, and of one with none below it.
use Prim.Native.Nat.{ℕ, ◌+◌, ◌*◌, ◌<◌, ◌≤◌, ◌^◌}
use native.Mathlib.Omega.{arith}
use mathlib.Core.Path.{◌≡◌, refl, sym, ap, ◌∙◌}
use mathlib.Core.Logic.{⊎_elim}
use mathlib.Core.List.{List}
use mathlib.Core.Bool.{Bool, true, false}
use borrow.Author.Tests.{ne_eqb, eqb-true, lt-ltb, le-ltb}
use lib.ListN.{length, get_or}
use lib.IntN.{ℤ}
use lib.Dec.{eqb, ltb}
use lib.Signed.{mag}
use mir.Syntax.{w64}
use mir.Val.{hbits, to_z, of_z}
use Rattle.whole.specs.Whole.{Sized, read, lt-or-le}
use Rattle.whole.specs.Bytes.{u16_at}
use Rattle.meaning.specs.Constraint.{Constraint, holds, not, value_of, at_most0, is0, leaves}
use Rattle.cursor.specs.Steps.{pick}
use Rattle.cursor.specs.Tree.{sum_of}
use Rattle.truth.proofs.Added.{is0-bits}
use Rattle.truth.specs.Stood.{joins_of, size_of, leaf_of, join, joint, Alone, Stood, alone, turned, joined}

-- ---- kinds

module _ {A : Type 0} {x : A} where
  pub when : (t : Bool) (y z : A) {b : Bool} → b ≡ t → b ≡ true → x ≡ y → x ≡ pick t y z
  unfolding pick
  when t y z p q e = rw (sym p ∙ q) e

  pub unless : (t : Bool) (y z : A) {b : Bool} → b ≡ t → b ≡ false → x ≡ z → x ≡ pick t y z
  unfolding pick
  unless t y z p q e = rw (sym p ∙ q) e

pub ruleset tests = (when, unless)

pub size-some : (k v : ℕ) → 0 < size_of k v
unfolding size_of pick
size-some k v = go (eqb k 0) (ltb k 3) (ltb k 6)
  where
    go : (a b c : Bool) → 0 < pick a 1 (pick b (5 + v * 2) (pick c 1 (9 + v * 2)))
    go true b c = omega arith
    go false true c = omega arith
    go false false true = omega arith
    go false false false = omega arith

-- the kinds of two sides are two
pub joint-joins : (op : Bool) → joins_of (joint op) ≡ true
unfolding joins_of joint
joint-joins true = refl
joint-joins false = refl

pub joint-is : (k : ℕ) → joins_of k ≡ true → k ≡ joint (eqb k 4)
unfolding joins_of joint
joint-is k e = go (eqb k 4) refl
  where
    go : (b : Bool) → eqb k 4 ≡ b → k ≡ joint b
    go true h = eqb-true k 4 h
    go false h = eqb-true k 5 (rw h at e)

joint-not : (op : Bool) → 3 ≡ joint op → ⊥
unfolding joint
joint-not true e = omega arith
joint-not false e = omega arith

joint-same : (a b : Bool) → joint a ≡ joint b → a ≡ b
unfolding joint
joint-same true true e = refl
joint-same true false e = absurd (let z : ⊥ = omega arith in z)
joint-same false true e = absurd (let z : ⊥ = omega arith in z)
joint-same false false e = refl

true-false : {b : Bool} → b ≡ true → b ≡ false → ⊥
true-false p q = let z : ◌≡◌ {A = ℕ} 0 1 = cc in omega arith

no-joint : {k : ℕ} (op : Bool) → k ≡ joint op → joins_of k ≡ false → ⊥
no-joint op e q = true-false (joint-joins op) (sym (ap joins_of e) ∙ q)

-- a kind with none below it that is none of the first three
large : (k : ℕ) → (k ≡ 0 → ⊥) → (k ≡ 1 → ⊥) → (k ≡ 2 → ⊥) → (k ≡ 3 → ⊥) → joins_of k ≡ false → 5 < k
unfolding joint
large k a b c d e =
    let f : k ≡ 4 → ⊥ = λ h. no-joint true h e in
    let g : k ≡ 5 → ⊥ = λ h. no-joint false h e in
    omega arith

pub low-plain : (k : ℕ) → k < 3 → joins_of k ≡ false
unfolding joins_of
low-plain k h = rw (ne_eqb k 4 (λ e. omega arith), ne_eqb k 5 (λ e. omega arith))

-- ---- leaves

module _ (s : List ℕ) (v p k : ℕ) (w : Alone s v p k) (a : k ≡ 0 → ⊥) where
  low : k < 3 → p + (5 + v * 2) ≤ length s
  unfolding size_of pick
  low h = rw (ne_eqb k 0 a, lt-ltb k 3 h) at w.there

  high : 5 < k → p + (9 + v * 2) ≤ length s
  unfolding size_of pick
  high h =
      let three : 3 ≤ k = omega arith in
      let six : 6 ≤ k = omega arith in
      rw (ne_eqb k 0 a, le-ltb k 3 three, le-ltb k 6 six) at w.there

  pub sum-there : p + 1 + (v * 2 + 4) ≤ length s
  sum-there = ⊎_elim (λ h. omega (arith, low h)) (λ h. omega (arith, high (large k a (λ e. omega arith) (λ e. omega arith) w.single w.plain))) (lt-or-le k 3)

  module _ (b : k ≡ 1 → ⊥) (c : k ≡ 2 → ⊥) where
    whole : p + (9 + v * 2) ≤ length s
    whole = high (large k a b c w.single w.plain)

    pub divisor-there : p + 5 + v * 2 + 2 ≤ length s
    divisor-there = omega (arith, whole)

    pub rest-there : p + 5 + v * 2 + 2 + 2 ≤ length s
    rest-there = omega (arith, whole)

    pub divisor-some : {d : ℕ} → d ≡ u16_at s (p + 5 + v * 2) → 0 < d
    divisor-some e = rw e (w.divisor (large k a b c w.single w.plain))

-- the machine's sum m is the meaning's
module _ (s : List ℕ) (v p k : ℕ) (xs : List ℤ) {x : Bool} where
  pub leaf-true : k ≡ 0 → x ≡ true → x ≡ holds xs (leaf_of s v p k)
  unfolding leaf_of pick holds
  leaf-true h e = rw h e

  module _ {m : ℤ} {size : ℕ} (z : Sized (value_of (sum_of s v (p + 1)) xs) size m) (fits : mag m < 2 ^ hbits w64) where
    pub leaf-at-most : k ≡ 1 → x ≡ at_most0 (to_z w64 (of_z w64 m)) → x ≡ holds xs (leaf_of s v p k)
    unfolding leaf_of pick holds
    leaf-at-most h e = rw h (e ∙ ap at_most0 (read w64 fits z).is)

    pub leaf-equal : k ≡ 2 → x ≡ eqb (of_z w64 m) 0 → x ≡ holds xs (leaf_of s v p k)
    unfolding leaf_of pick holds
    leaf-equal h e = rw h (e ∙ is0-bits m (record { sfits = fits }) ∙ ap is0 z.is)

    pub leaf-remainder : {d r : ℕ} → (k ≡ 0 → ⊥) → (k ≡ 1 → ⊥) → (k ≡ 2 → ⊥) → d ≡ u16_at s (p + 5 + v * 2) → r ≡ u16_at s (p + 5 + v * 2 + 2) →
        x ≡ leaves d r (to_z w64 (of_z w64 m)) → x ≡ holds xs (leaf_of s v p k)
    unfolding leaf_of pick holds
    leaf-remainder a b c f g e = rw (ne_eqb k 0 a, ne_eqb k 1 b, ne_eqb k 2 c, ← f, ← g) (e ∙ ap (leaves _ _) (read w64 fits z).is)

pub ruleset leaf-laws = (leaf-true, leaf-at-most, leaf-equal, leaf-remainder)

-- where it ends
module _ (s : List ℕ) (v p k : ℕ) where
  pub past-true : k ≡ 0 → p + 1 ≡ p + size_of k v
  unfolding size_of pick
  past-true h = rw h

  past-low : (k ≡ 0 → ⊥) → k < 3 → p + 5 + v * 2 ≡ p + size_of k v
  unfolding size_of pick
  past-low a h = rw (ne_eqb k 0 a, lt-ltb k 3 h) (omega arith)

  pub past-at-most : k ≡ 1 → p + 5 + v * 2 ≡ p + size_of k v
  past-at-most h = past-low (λ e. omega arith) (omega arith)

  pub past_equal : k ≡ 2 → p + 5 + v * 2 ≡ p + size_of k v
  past_equal h = past-low (λ e. omega arith) (omega arith)

  pub past-remainder : Alone s v p k → (k ≡ 0 → ⊥) → (k ≡ 1 → ⊥) → (k ≡ 2 → ⊥) → p + 5 + v * 2 + 4 ≡ p + size_of k v
  unfolding size_of pick
  past-remainder w a b c =
      let six = large k a b c w.single w.plain in
      let below : 3 ≤ k = omega arith in
      let least : 6 ≤ k = omega arith in
      rw (ne_eqb k 0 a, le-ltb k 3 below, le-ltb k 6 least) (omega arith)

pub ruleset past-laws = (past-true, past-at-most, past_equal, past-remainder)

-- ---- a constraint that stands at p, by its kind

module _ (s : List ℕ) (v p : ℕ) (P : Constraint → ℕ → Type 0) where
  pub alone-by : (get_or s p 0 ≡ 3 → ⊥) → joins_of (get_or s p 0) ≡ false → (Alone s v p (get_or s p 0) → P (leaf_of s v p (get_or s p 0)) (p + size_of (get_or s p 0) v)) →
      {t : Constraint} {q : ℕ} → Stood s v p t q → P t q
  alone-by h j k (alone w e f) = rw (e, f) (k w)
  alone-by h j k (turned e w) = absurd (h e)
  alone-by h j k (joined op e w x) = absurd (no-joint op e j)

  pub turned_by : get_or s p 0 ≡ 3 → ((t : Constraint) (q : ℕ) → Stood s v (p + 1) t q → P (not t) q) → {t : Constraint} {q : ℕ} → Stood s v p t q → P t q
  turned_by h k (alone w e f) = absurd (w.single h)
  turned_by h k (turned e w) = k _ _ w
  turned_by h k (joined op e w x) = absurd (joint-not op (sym h ∙ e))

  pub joined_by : (op : Bool) → get_or s p 0 ≡ joint op →
      ((t u : Constraint) (m q : ℕ) → Stood s v (p + 1) t m → Stood s v m u q → P (join op t u) q) → {t : Constraint} {q : ℕ} → Stood s v p t q → P t q
  joined_by op h k (alone w e f) = absurd (no-joint op h w.plain)
  joined_by op h k (turned e w) = absurd (joint-not op (sym e ∙ h))
  joined_by op h k (joined o e w x) = rw (joint-same o op (sym e ∙ h)) (k _ _ _ _ w x)

-- it lies within the bytes
pub record Within (s : List ℕ) (p q : ℕ) : Type 0 where
  pub grows : p < q
  pub ends : q ≤ length s

pub within : {s : List ℕ} {v p : ℕ} {t : Constraint} {q : ℕ} → Stood s v p t q → Within s p q
within {s} {v} {p} (alone w e f) = record { grows = omega (arith, f, size-some (get_or s p 0) v); ends = omega (arith, f, w.there) }
within (turned e w) = let i = within w in record { grows = omega arith; ends = i.ends }
within (joined op e w x) = let i = within w in let j = within x in record { grows = omega arith; ends = j.ends }

-- The code's flag f says whether the kind at p has two sides; whether it is an `and` is then what a first side must be.
abbrev pub op : List ℕ → ℕ → Bool
op s p = eqb (get_or s p 0) 4

pub joint-of : (s : List ℕ) (p : ℕ) {f : Bool} → f ≡ joins_of (get_or s p 0) → f ≡ true → get_or s p 0 ≡ joint (op s p)
joint-of s p e g = joint-is (get_or s p 0) (sym e ∙ g)
