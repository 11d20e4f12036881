-- A walk from a place where a step starts: that step, and the walk from the place after it.
use Rattle.std.specs.Prelude.{◌≡◌, get_or, ℤ, pos}
use Rattle.std.proofs.Math.Path.{ap}
use mathlib.Core.List.{List}
use Prim.Native.Nat.{ℕ, zero, suc, ◌+◌, ◌-◌, ◌<◌}
use native.Mathlib.Omega.{arith}
use Rattle.std.proofs.Math.ListN.{length, drop, length-drop}
use Rattle.std.proofs.Math.Seq.{drop-drop}
use Rattle.meaning.specs.Book.{Book}
use Rattle.lists.specs.Instance.{clause_number}
use Rattle.lists.specs.Walker.{Walker, walk}
use Rattle.lists.specs.Walked.{step_here, from, after, start, walk-count, walked}

module _ (b : Book) {R : Type 0} (W : Walker R) where
  pub walked_more : (l : List ℤ) (i : ℕ) (o : W.Memory) → i < length l →
      walked b W l i o ≡ W.step (clause_number b (get_or l i (pos 0))) (drop (i + 1) l) i o (walked b W l (after b W.gap l i) (W.next (step_here b l i) o))
  unfolding walked walk
  walked_more l i o h =
      let r = drop (i + 1) l in
      let n = after b W.gap l i in
      let z : length l - i ≡ suc (length r) = rw length-drop (omega arith) in
      rw (z, from l i h) (ap (W.step (clause_number b (get_or l i (pos 0))) r i o)
      (simp drop-drop (walk-count b W (length r) (length l - n) n _ (drop n l) (simp length-drop (omega arith)) (simp length-drop (omega arith)))))

  module _ (P : R → Type 0) where
    -- what holds after a step where it holds before it, holds from each step on
    pub walked_at : ((k : ℕ) (l : List ℤ) (i : ℕ) (o : W.Memory) (r : R) → P (W.step k l i o r) → P r) → (l : List ℤ) (i : ℕ) (o : W.Memory) → P (walked b W l i o)
        → (j : ℕ) → start b W.gap l i j < length l → (p : W.Memory) × P (walked b W l (start b W.gap l i j) p)
    unfolding start
    walked_at rest l i o e zero h = (o, e)
    walked_at rest l i o e (suc j) h =
        let n : start b W.gap l i j < length l = omega arith in
        let (p, q) = walked_at rest l i o e j n in
        (_, rest _ _ _ _ _ (rw (walked_more l (start b W.gap l i j) p n) at q))
