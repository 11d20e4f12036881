-- The odometer: from one assignment to the next in place. From the low ends on, it walks all assignments in order.
use Rattle.std.specs.Prelude.{◌≡◌, ◌⊎◌, true, false, not, T, ℤ, ◌+ℤ◌, ◌-ℤ◌, ◌≤ℤ◌, ◌<ℤ◌}
use Rattle.std.proofs.Math.Path.{refl, sym, ap}
use Rattle.std.proofs.Common.{◌∙◌}
use Rattle.std.proofs.Math.Logic.{inl, inr, ⊎_elim}
use mathlib.Core.List.{List, [], ◌∷◌, flat_map}
use Prim.Native.Nat.{ℕ, zero, suc, ◌+◌, ◌<◌, ◌≤◌}
use native.Mathlib.Omega.{arith}
use Rattle.std.proofs.Math.ListN.{length, get_or, take, drop, set, length-set}
use Rattle.std.proofs.Math.Seq.{take-suc, take-take, get_or-take, get_or-set_same, get_or-set_other, take-set-le, take-suc-set, drop-set-lt}
use Rattle.std.proofs.Math.IntN.{pos, +ℤ_idr}
use Rattle.std.specs.Int.Signed.{lt_z, lt_z_no}
use Rattle.whole.specs.Whole.{lt-or-le}
use Rattle.meaning.specs.Book.{Window, Inside}
use Rattle.cursor.specs.Steps.{pick}
use Rattle.cursor.specs.Inverse.{pick-by}
use Rattle.models.specs.Assignments.{natural, up_from, assignments, count, rank}
use Rattle.models.specs.Gaps.{more, gap, gap-next, no_gap, reach, above, next_le, seat, seat-width, seat-values, lowest, open-window}
use Rattle.models.specs.Order.{Lie, prior, after, prior-rank, assignments-split, assignments-count}

empty : {A : Type 0} (l : List A) → length l ≡ 0 → l ≡ []
empty [] e = refl
empty (x ∷ l) e = absurd (let z : ⊥ = omega arith in z)

module _ (w : ℕ → Window) where
  -- the last of i variables goes one up; at its high end it goes back to its low one, and the variables before it go one up
  unfoldable pub up : ℕ → List ℤ → List ℤ
  up zero vs = vs
  up (suc i) vs = pick (lt_z (get_or vs i (pos 0)) (w i).hi) (set vs i (get_or vs i (pos 0) +ℤ pos 1)) (up i (set vs i (w i).lo))

  -- the low ends of the first i variables' windows, in place
  unfoldable pub lows : ℕ → List ℤ → List ℤ
  lows zero vs = vs
  lows (suc i) vs = set (lows i vs) i (w i).lo

  -- k assignments of n variables from vs on
  unfoldable pub run : ℕ → ℕ → List ℤ → List (List ℤ)
  run n zero vs = []
  run n (suc k) vs = take n vs ∷ run n k (up n vs)

  -- ---- what it leaves as it was

  pub up-length : (n : ℕ) (vs : List ℤ) → length (up n vs) ≡ length vs
  unfolding up
  up-length zero vs = refl
  up-length (suc n) vs = pick-by (λ (l : List ℤ). length l ≡ length vs) _ _ _
      (λ t. length-set vs n (get_or vs n (pos 0) +ℤ pos 1))
      (λ t. up-length n (set vs n (w n).lo) ∙ length-set vs n (w n).lo)

  pub up-drop : (n : ℕ) (vs : List ℤ) (k : ℕ) → n ≤ k → drop k (up n vs) ≡ drop k vs
  unfolding up
  up-drop zero vs k h = refl
  up-drop (suc n) vs k h = pick-by (λ (l : List ℤ). drop k l ≡ drop k vs) _ _ _
      (λ t. drop-set-lt k vs n (get_or vs n (pos 0) +ℤ pos 1) h)
      (λ t. up-drop n (set vs n (w n).lo) k (omega arith) ∙ drop-set-lt k vs n (w n).lo h)

  up-last : (n : ℕ) (vs : List ℤ) (i : ℕ) → n ≤ i → get_or (up n vs) i (pos 0) ≡ get_or vs i (pos 0)
  unfolding up
  up-last zero vs i h = refl
  up-last (suc n) vs i h = pick-by (λ (l : List ℤ). get_or l i (pos 0) ≡ get_or vs i (pos 0)) _ _ _
      (λ t. get_or-set_other vs n i (get_or vs n (pos 0) +ℤ pos 1) (pos 0) (λ e. omega arith))
      (λ t. up-last n (set vs n (w n).lo) i (omega arith) ∙ get_or-set_other vs n i (w n).lo (pos 0) (λ e. omega arith))

  -- what comes after goes by the first n values
  after_same : (n : ℕ) (us vs : List ℤ) → take n us ≡ take n vs → after w n us ≡ after w n vs
  unfolding after
  after_same zero us vs e = refl
  after_same (suc n) us vs e =
      let t : take n us ≡ take n vs = sym (take-take n (suc n) us (omega arith)) ∙ ap (take n) e ∙ take-take n (suc n) vs (omega arith) in
      let g : get_or us n (pos 0) ≡ get_or vs n (pos 0) =
      sym (get_or-take (suc n) us n (pos 0) (omega arith)) ∙ ap (λ (l : List ℤ). get_or l n (pos 0)) e ∙ get_or-take (suc n) vs n (pos 0) (omega arith) in
      rw (t, g, after_same n us vs t)

  lie-set : (n : ℕ) (vs : List ℤ) (z : ℤ) → Lie w n vs → Lie w n (set vs n z)
  lie-set n vs z h i l = rw (get_or-set_other vs n i z (pos 0) (λ e. omega arith)) (h i l)

  lie-more : (n : ℕ) (vs : List ℤ) → Lie w n vs → Inside (w n) (get_or vs n (pos 0)) → Lie w (suc n) vs
  lie-more n vs h k i l = ⊎_elim (λ m. h i m) (λ m. let e : i ≡ n = omega arith in rw e k) (lt-or-le i n)

  -- ---- the next assignment

  -- none comes after vs, or us comes next
  pub record Follows (n : ℕ) (vs us : List ℤ) : Type 0 where
    pub lie : Lie w n us
    pub next : after w n vs ≡ take n us ∷ after w n us

  module _ (n : ℕ) (vs : List ℤ) (l : n < length vs) (h : Lie w (suc n) vs) where
    abbrev v : ℤ
    v = get_or vs n (pos 0)

    in_place : lt_z v (w n).hi ≡ true → Follows (suc n) vs (set vs n (v +ℤ pos 1))
    unfolding after up_from
    in_place t =
        let less : v <ℤ (w n).hi = record { lt = rw t tt } in
        let top : (v +ℤ pos 1) ≤ℤ (w n).hi = next_le v (w n).hi less in
        let us = set vs n (v +ℤ pos 1) in
        let s = seat (w n) v (h n (omega arith)) in
        let in_window : Inside (w n) (v +ℤ pos 1) =
        record { low = rw (← s.low, more (w n).lo s.below 1) (above (w n).lo (s.below + 1)); high = top } in
        record {
          lie = lie-more n us (lie-set n vs (v +ℤ pos 1) (λ i k. h i (omega arith))) (rw (get_or-set_same vs n (v +ℤ pos 1) (pos 0) l) in_window);
          next = rw (
            gap-next v (w n).hi top,
            take-suc-set vs n (v +ℤ pos 1) l,
            take-set-le n vs n (v +ℤ pos 1) (omega arith),
            get_or-set_same vs n (v +ℤ pos 1) (pos 0) l,
            after_same n us vs (take-set-le n vs n (v +ℤ pos 1) (omega arith)),
          );
        }

    none_over : lt_z v (w n).hi ≡ false → natural ((w n).hi -ℤ v) ≡ 0
    none_over t =
        let most : (w n).hi ≤ℤ v = lt_z_no (let u : T (not (lt_z v (w n).hi)) = rw t tt in u) in
        rw (← (reach (w n).hi v most)) (no_gap (w n).hi (natural (v -ℤ (w n).hi)))

    low_end : (w n).lo ≤ℤ (w n).hi
    low_end = let s = seat (w n) v (h n (omega arith)) in open-window (w n) (omega (arith, seat-width (w n) v s))

    carry : lt_z v (w n).hi ≡ false → (us : List ℤ) → n < length us → get_or us n (pos 0) ≡ (w n).lo → Follows n (set vs n (w n).lo) us → Follows (suc n) vs us
    unfolding after up_from flat_map
    carry t us k g f =
        let back = after_same n vs (set vs n (w n).lo) (sym (take-set-le n vs n (w n).lo (omega arith))) in
        let o = lowest (w n) low_end in
        record {
          lie = lie-more n us f.lie (rw g (record { low = rw +ℤ_idr at (above (w n).lo 0); high = low_end }));
          next = rw (none_over t, back, f.next, seat-values (w n) (w n).lo o, take-suc us n (pos 0) k, g);
        }

  -- none comes after vs, or `up` gives the next
  pub up-follows : (n : ℕ) (vs : List ℤ) → n ≤ length vs → Lie w n vs → (after w n vs ≡ []) ⊎ Follows n vs (up n vs)
  unfolding up after up_from flat_map
  up-follows zero vs l h = inl refl
  up-follows (suc n) vs l h =
      let low = set vs n (w n).lo in
      let len : length low ≡ length vs = length-set vs n (w n).lo in
      let rec = up-follows n low (omega arith) (lie-set n vs (w n).lo (λ i k. h i (omega arith))) in
      pick-by (λ (us : List ℤ). (after w (suc n) vs ≡ []) ⊎ Follows (suc n) vs us) _ _ _
      (λ t. inr (in_place n vs l h t))
      (λ t. ⊎_elim
      (λ e. inl (rw (none_over n vs l h t, after_same n vs low (sym (take-set-le n vs n (w n).lo (omega arith))), e)))
      (λ f. inr (carry n vs l h t (up n low) (omega (arith, up-length n low)) (up-last n low n (omega arith) ∙ get_or-set_same vs n (w n).lo (pos 0) l) f))
      rec)

  run-after : (k n : ℕ) (vs : List ℤ) → n ≤ length vs → Lie w n vs → length (after w n vs) ≡ k → run n (suc k) vs ≡ take n vs ∷ after w n vs
  unfolding run
  run-after zero n vs l h e = rw (empty (after w n vs) e)
  run-after (suc k) n vs l h e = ⊎_elim
      (λ z. absurd (let q : length (after w n vs) ≡ 0 = ap length z in let z : ⊥ = omega arith in z))
      (λ f.
      let q : length (after w n vs) ≡ suc (length (after w n (up n vs))) = ap length f.next in
      ap (λ (us : List (List ℤ)). take n vs ∷ us) (run-after k n (up n vs) (omega (arith, up-length n vs)) f.lie (omega arith) ∙ sym f.next))
      (up-follows n vs l h)

  rank-lows : (n : ℕ) (vs : List ℤ) → ((i : ℕ) → i < n → get_or vs i (pos 0) ≡ (w i).lo) → rank w n vs ≡ 0
  unfolding rank
  rank-lows zero vs h = refl
  rank-lows (suc n) vs h =
      let z : natural ((w n).lo -ℤ (w n).lo) ≡ 0 = rw +ℤ_idr at (gap (w n).lo 0) in
      rw (rank-lows n vs (λ i l. h i (omega arith)), h n (omega arith), z) (omega arith)

  -- from the low ends of open windows on, the odometer's turns are all assignments in order
  pub assignments-run : (n : ℕ) (vs : List ℤ) → n ≤ length vs → ((i : ℕ) → i < n → get_or vs i (pos 0) ≡ (w i).lo) → ((i : ℕ) → i < n → (w i).lo ≤ℤ (w i).hi) →
      assignments w n ≡ run n (count w n) vs
  assignments-run n vs l lows opens =
      let h : Lie w n vs = λ i k. rw (lows i k) (record { low = rw +ℤ_idr at (above (w i).lo 0); high = opens i k }) in
      let s = assignments-split w n vs l h in
      let p : prior w n vs ≡ [] = empty (prior w n vs) (prior-rank w n vs ∙ rank-lows n vs lows) in
      let a : assignments w n ≡ take n vs ∷ after w n vs = rw p at s in
      let c : count w n ≡ suc (length (after w n vs)) = sym (assignments-count w n) ∙ ap length a in
      rw c (a ∙ sym (run-after (length (after w n vs)) n vs l h refl))

  pub lows-length : (n : ℕ) (vs : List ℤ) → length (lows n vs) ≡ length vs
  unfolding lows
  lows-length zero vs = refl
  lows-length (suc n) vs = length-set (lows n vs) n (w n).lo ∙ lows-length n vs

  pub lows-drop : (n : ℕ) (vs : List ℤ) (k : ℕ) → n ≤ k → drop k (lows n vs) ≡ drop k vs
  unfolding lows
  lows-drop zero vs k h = refl
  lows-drop (suc n) vs k h = drop-set-lt k (lows n vs) n (w n).lo h ∙ lows-drop n vs k (omega arith)

  lows-at : (n : ℕ) (vs : List ℤ) → n ≤ length vs → (i : ℕ) → i < n → get_or (lows n vs) i (pos 0) ≡ (w i).lo
  unfolding lows
  lows-at zero vs l i h = absurd (let z : ⊥ = omega arith in z)
  lows-at (suc n) vs l i h = ⊎_elim
      (λ k. get_or-set_other (lows n vs) n i (w n).lo (pos 0) (λ e. omega arith) ∙ lows-at n vs (omega arith) i k)
      (λ k. let e : i ≡ n = omega arith in rw e (get_or-set_same (lows n vs) n (w n).lo (pos 0) (omega (arith, lows-length n vs))))
      (lt-or-le i n)

  -- the walk that the code makes
  pub walked : (n : ℕ) (vs : List ℤ) → n ≤ length vs → ((i : ℕ) → i < n → (w i).lo ≤ℤ (w i).hi) → assignments w n ≡ run n (count w n) (lows n vs)
  walked n vs l opens = assignments-run n (lows n vs) (omega (arith, lows-length n vs)) (lows-at n vs l) opens
