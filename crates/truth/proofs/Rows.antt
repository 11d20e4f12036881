-- Passing a row of constraints: the first is opened, and what stands below it stands there instead.
use Prim.Native.Nat.{ℕ, suc, ◌+◌, ◌-◌, ◌<◌, ◌≤◌}
use native.Mathlib.Numerals.{add-one, sub-one}
use native.Mathlib.Omega.{arith}
use mathlib.Core.Path.{◌≡◌, refl}
use mathlib.Core.List.{List}
use mathlib.Core.Bool.{true, false}
use borrow.Author.Tests.{ne_eqb}
use lib.ListN.{length, get_or}
use Rattle.meaning.specs.Constraint.{Constraint}
use Rattle.cursor.specs.Steps.{pick}
use Rattle.truth.specs.Stood.{joins_of, size_of, parts_of, joint, Alone, Stood, alone, turned, joined, Row, none, more, Rowed}
use Rattle.truth.proofs.Laws.{size-some, within}

pub row-long : {s : List ℕ} {v n p q : ℕ} → Row s v n p q → n + p ≤ q
row-long none = omega arith
row-long (more w r) = omega (arith, within w, row-long r)

pub row-none : {s : List ℕ} {v n p q : ℕ} → Row s v n p q → n ≤ 0 → p ≡ q
row-none none h = refl
row-none (more w r) h = absurd (let z : ⊥ = omega arith in z)

parts-alone : (k : ℕ) → (k ≡ 3 → ⊥) → joins_of k ≡ false → parts_of k ≡ 0
unfolding parts_of pick
parts-alone k h j = rw (ne_eqb k 3 h, j)

-- the first of a row opened: what stands below it stands there instead
module _ {s : List ℕ} {v n p q : ℕ} where
  opened-alone : {m : ℕ} → Alone s v p (get_or s p 0) → m ≡ p + size_of (get_or s p 0) v → Row s v n m q → Row s v (n + parts_of (get_or s p 0)) (p + size_of (get_or s p 0) v) q
  opened-alone w f r =
      let same : n + parts_of (get_or s p 0) ≡ n = omega (arith, parts-alone (get_or s p 0) w.single w.plain) in
      rw (same, ← f) r

  opened : {m : ℕ} {t : Constraint} → Stood s v p t m → Row s v n m q → Row s v (n + parts_of (get_or s p 0)) (p + size_of (get_or s p 0) v) q
  unfolding parts_of size_of pick joins_of joint
  opened (alone w e f) r = opened-alone w f r
  opened (turned e w) r = rw (e, add-one n) (more w r)
  opened (joined true e w x) r = let two : n + 2 ≡ suc (suc n) = omega arith in rw (e, two) (more w (more x r))
  opened (joined false e w x) r = let two : n + 2 ≡ suc (suc n) = omega arith in rw (e, two) (more w (more x r))

pub row_open : {s : List ℕ} {v n p q : ℕ} → 0 < n → Row s v n p q → Row s v (n - 1 + parts_of (get_or s p 0)) (p + size_of (get_or s p 0) v) q
row_open h none = absurd (let z : ⊥ = omega arith in z)
row_open h (more w r) = rw sub-one (opened w r)

-- one more at the end
pub row_last : {s : List ℕ} {v n p m q : ℕ} {t : Constraint} → Row s v n p m → Stood s v m t q → Row s v (n + 1) p q
row_last none w = more w none
row_last {n = suc n} (more x r) w = let e : suc n + 1 ≡ suc (n + 1) = omega arith in rw e (more x (row_last r w))

-- every end that left constraints from p on have, n of them from a on have
pub record Passing (s : List ℕ) (v left p n a : ℕ) : Type 0 where
  pub each : {q : ℕ} → Row s v left p q → Row s v n a q

-- there is room for the next step
pub record Room (s : List ℕ) (v n a : ℕ) : Type 0 where
  pub here : a < length s
  pub count : n - 1 + parts_of (get_or s a 0) ≤ length s
  pub next : a + size_of (get_or s a 0) v ≤ length s
  pub some : 0 < size_of (get_or s a 0) v

module _ {s : List ℕ} {v left p n a : ℕ} where
  pub room : Rowed s v left p → Passing s v left p n a → 0 < n → Room s v n a
  room w g h =
      let r = g.each w.row in
      let first = row-long r in
      let next = row-long (row_open h r) in
      record { here = omega arith; count = omega arith; next = omega arith; some = size-some (get_or s a 0) v }

  pub passing-open : {k z : ℕ} → Passing s v left p n a → 0 < n → k ≡ parts_of (get_or s a 0) → z ≡ size_of (get_or s a 0) v → Passing s v left p (n - 1 + k) (a + z)
  passing-open g h e f = rw (e, f) (record { each = λ r. row_open h (g.each r) })
