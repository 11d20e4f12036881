-- Where a value stands in its window, in natural numbers, which `omega` reads.
use Rattle.std.specs.Prelude.{◌≡◌, refl, Bool, true, false, not, ◌∷◌, ◌++◌, length, T, ℤ, negsuc, neg_ℤ, ◌+ℤ◌, ◌-ℤ◌, ◌≤ℤ◌, ◌<ℤ◌}
use Rattle.std.proofs.Common.{ap, ◌∙◌, not-suc-le-zero, ⊎_elim, le→leb, ltb→lt}
use Prim.Native.Nat.{ℕ, zero, suc, ◌+◌, ◌-◌, ◌<◌, ◌≤◌}
use native.Mathlib.Omega.{arith}
use Rattle.std.proofs.Math.IntN.{pos, +ℤ_assoc, +ℤ_comm, +ℤ_idl, +ℤ_idr, +ℤ_invr, +ℤ_one, suc_ℤ, neg_ℤ-+ℤ, +ℤ-neg_ℤ_cancel, -ℤ-+ℤ_cancel}
use Rattle.std.specs.Int.Signed.{lt_z, non_neg, lt_z_no}
use Rattle.whole.specs.Whole.{sub-nonneg, lt-or-le, subℕ-lt, subℕ-ge}
use Rattle.meaning.specs.Book.{Window, Inside}
use Rattle.models.specs.Assignments.{natural, width, up_from, values}

-- ---- whole numbers that lie k above another

pub more : (x : ℤ) (j k : ℕ) → (x +ℤ pos j) +ℤ pos k ≡ x +ℤ pos (j + k)
more x j k = +ℤ_assoc x (pos j) (pos k)

pub gap : (x : ℤ) (k : ℕ) → natural ((x +ℤ pos k) -ℤ x) ≡ k
unfolding natural
gap x k = rw (+ℤ_comm x (pos k), +ℤ-neg_ℤ_cancel (pos k) x)

pub no_gap : (x : ℤ) (k : ℕ) → natural (x -ℤ (x +ℤ pos k)) ≡ 0
unfolding natural
no_gap x k = rw (neg_ℤ-+ℤ x (pos k), ← (+ℤ_assoc x (neg_ℤ x) (neg_ℤ (pos k))), +ℤ_invr x, +ℤ_idl (neg_ℤ (pos k))) (none k)
  where
    none : (k : ℕ) → natural (neg_ℤ (pos k)) ≡ 0
    none zero = refl
    none (suc k) = refl

pub natural-pos : (z : ℤ) → T (non_neg z) → pos (natural z) ≡ z
unfolding natural
natural-pos (pos n) h = refl
natural-pos (negsuc n) h = absurd h

pub reach : (lo v : ℤ) → lo ≤ℤ v → lo +ℤ pos (natural (v -ℤ lo)) ≡ v
reach lo v h = rw (natural-pos (v -ℤ lo) (sub-nonneg lo v h), +ℤ_comm lo (v -ℤ lo)) (-ℤ-+ℤ_cancel v lo)

pub above : (x : ℤ) (k : ℕ) → x ≤ℤ (x +ℤ pos k)
above (pos a) k = record { le = le→leb a (a + k) (omega arith) }
above (negsuc a) k = ⊎_elim
    (λ h. rw (subℕ-lt k (suc a) h) (record { le = le→leb (suc a - suc k) a (omega arith) }))
    (λ h. rw (subℕ-ge k (suc a) h) (record { le = tt }))
    (lt-or-le k (suc a))

pub between : (x : ℤ) (j k : ℕ) → j ≤ k → (x +ℤ pos j) ≤ℤ (x +ℤ pos k)
between x j k h =
    let e : j + (k - j) ≡ k = omega arith in
    rw e at (rw (more x j (k - j)) at (above (x +ℤ pos j) (k - j)))

pub gap-next : (x h : ℤ) → (x +ℤ pos 1) ≤ℤ h → natural (h -ℤ x) ≡ suc (natural (h -ℤ (x +ℤ pos 1)))
gap-next x h p = go (natural (h -ℤ (x +ℤ pos 1))) (reach (x +ℤ pos 1) h p)
  where
    go : (d : ℕ) → (x +ℤ pos 1) +ℤ pos d ≡ h → natural (h -ℤ x) ≡ suc d
    go d r = let z : 1 + d ≡ suc d = omega arith in rw (← r, more x 1 d, z) (gap x (suc d))

-- ---- a value in its window

-- as many values lie below it and above it
pub record Seat (w : Window) (v : ℤ) : Type 0 where
  pub below : ℕ
  pub over : ℕ
  pub low : w.lo +ℤ pos below ≡ v
  pub high : v +ℤ pos over ≡ w.hi

module _ (w : Window) (v : ℤ) where
  pub seat : Inside w v → Seat w v
  seat h = record { below = natural (v -ℤ w.lo); over = natural (w.hi -ℤ v); low = reach w.lo v h.low; high = reach v w.hi h.high }

  pub seat-below : (t : Seat w v) → natural (v -ℤ w.lo) ≡ t.below
  seat-below t = rw (← t.low) (gap w.lo t.below)

  pub seat-over : (t : Seat w v) → natural (w.hi -ℤ v) ≡ t.over
  seat-over t = rw (← t.high) (gap v t.over)

  pub seat-width : (t : Seat w v) → width w ≡ t.below + suc t.over
  unfolding width
  seat-width t =
      let e : t.over + 1 ≡ suc t.over = omega arith in
      rw (← t.high, more v t.over 1, e, ← t.low, more w.lo t.below (suc t.over)) (gap w.lo (t.below + suc t.over))

  -- the window holds what lies below it, itself, and what lies above it
  pub seat-values : (t : Seat w v) → values w ≡ up_from t.below w.lo ++ (v ∷ up_from t.over (v +ℤ pos 1))
  unfolding up_from
  seat-values t = rw (seat-width t) (split t.below w.lo t.low)
    where
      split : (k : ℕ) (x : ℤ) → x +ℤ pos k ≡ v → up_from (k + suc t.over) x ≡ up_from k x ++ (v ∷ up_from t.over (v +ℤ pos 1))
      split zero x e =
          let z : 0 + suc t.over ≡ suc t.over = omega arith in
          rw (z, ← e, +ℤ_idr x)
      split (suc k) x e =
          let z : suc k + suc t.over ≡ suc (k + suc t.over) = omega arith in
          let o : 1 + k ≡ suc k = omega arith in
          rw (z, split k (x +ℤ pos 1) (more x 1 k ∙ rw o e))

pub up_from-length : (k : ℕ) (x : ℤ) → length (up_from k x) ≡ k
unfolding up_from
up_from-length zero x = refl
up_from-length (suc k) x = ap suc (up_from-length k (x +ℤ pos 1))

-- what lies below another number leaves room for one more
pub next_le : (a b : ℤ) → a <ℤ b → (a +ℤ pos 1) ≤ℤ b
next_le a b h = rw (+ℤ_one a) (go a b h.lt)
  where
    go : (a b : ℤ) → T (lt_z a b) → suc_ℤ a ≤ℤ b
    go (pos a) (pos b) h = record { le = le→leb (suc a) b (ltb→lt a b h) }
    go (pos a) (negsuc b) h = absurd h
    go (negsuc zero) (pos b) h = record { le = le→leb 0 b (omega arith) }
    go (negsuc zero) (negsuc b) h = absurd (let z : b < 0 = ltb→lt b 0 h in not-suc-le-zero z)
    go (negsuc (suc a)) (pos b) h = record { le = tt }
    go (negsuc (suc a)) (negsuc b) h = let z : b < suc a = ltb→lt b (suc a) h in record { le = le→leb b a (omega arith) }

-- a window with a value has its low end no higher than its high one, and each of its values lies inside
pub open-window : (w : Window) → 0 < width w → w.lo ≤ℤ w.hi
unfolding width
open-window w h = go (lt_z w.hi w.lo) refl
  where
    shut : T (lt_z w.hi w.lo) → width w ≡ 0
    shut t =
        let top = w.hi +ℤ pos 1 in
        rw (← (reach top w.lo (next_le w.hi w.lo (record { lt = t })))) (no_gap top (natural (w.lo -ℤ top)))

    go : (t : Bool) → lt_z w.hi w.lo ≡ t → w.lo ≤ℤ w.hi
    go true e = let z : width w ≡ 0 = shut (rw e tt) in absurd (let q : ⊥ = omega arith in q)
    go false e = lt_z_no (let t : T (not (lt_z w.hi w.lo)) = rw e tt in t)

-- its low end
abbrev pub lowest : (w : Window) → w.lo ≤ℤ w.hi → Seat w w.lo
lowest w h = record { below = 0; over = natural (w.hi -ℤ w.lo); low = +ℤ_idr w.lo; high = reach w.lo w.hi h }

pub value-inside : (w : Window) (j : ℕ) → j < width w → Inside w (w.lo +ℤ pos j)
value-inside w j h =
    let o : w.lo ≤ℤ w.hi = open-window w (omega arith) in
    let t = lowest w o in
    let k : j ≤ t.over = omega (arith, seat-width w w.lo t) in
    record { low = above w.lo j; high = rw t.high at (between w.lo j t.over k) }
