-- A walk by the places of its steps, and from a place of the list on, for a loop.
use Rattle.std.specs.Prelude.{◌≡◌, get_or, take, ℤ, pos, negsuc}
use Rattle.std.proofs.Math.Path.{refl, ap}
use mathlib.Core.List.{List, [], ◌∷◌}
use Prim.Native.Nat.{ℕ, zero, suc, ◌+◌, ◌-◌, ◌≤◌, ◌<◌}
use Rattle.std.proofs.Common.{not-suc-le-zero, add-one, drop-cons}
use native.Mathlib.Omega.{arith}
use Rattle.std.proofs.Math.ListN.{length, drop, length-drop}
use Rattle.meaning.specs.Book.{Book, Clause, Step, Instance}
use Rattle.lists.specs.Instance.{clause_number, clause_at, step_at}
use Rattle.lists.specs.Walker.{Walker, walk}

-- a number that names a clause is not below zero
pub clause-number : (b : Book) (x : ℤ) → clause_number b x < length b.clauses → pos (clause_number b x) ≡ x
unfolding clause_number
clause-number b (pos k) h = refl
clause-number b (negsuc n) h = absurd (let z : ⊥ = omega arith in z)

-- the clause and the step that stand at place i
abbrev pub clause_here : Book → List ℤ → ℕ → Clause
clause_here b l i = clause_at b (clause_number b (get_or l i (pos 0)))

abbrev pub step_here : Book → List ℤ → ℕ → Step
step_here b l i = step_at b (clause_number b (get_or l i (pos 0))) (drop (i + 1) l)

-- what is left from place i on, where one is there
pub from : (l : List ℤ) (i : ℕ) → i < length l → drop i l ≡ get_or l i (pos 0) ∷ drop (i + 1) l
from l i h = rw add-one (drop-cons l i (pos 0) h)

-- an instance's numbers are those that stand there
pub numbers-here : (b : Book) (l : List ℤ) (i : ℕ) → i < length l → Instance b (step_here b l i) →
    let s = step_here b l i in
    pos s.clause ∷ s.vals ≡ take ((clause_here b l i).vars + 1) (drop i l)
numbers-here b l i h one = rw (add-one (clause_here b l i).vars, from l i h, clause-number b (get_or l i (pos 0)) one.there)

-- ---- places, where `gap` numbers stand after each step's values

module _ (b : Book) (gap : ℕ) (l : List ℤ) where
  -- the place after the step at place i
  abbrev pub after : ℕ → ℕ
  after i = i + 1 + (clause_here b l i).vars + gap

  -- the place where step j starts, step 0 at place i
  unfoldable pub start : ℕ → ℕ → ℕ
  start i zero = i
  start i (suc j) = after (start i j)

  pub start_first : (i : ℕ) → start i 0 ≡ i
  unfolding start
  start_first i = refl

  pub start-next : (i j : ℕ) → start i (j + 1) ≡ after (start i j)
  unfolding start
  start-next i j = rw (add-one j)

-- ---- walks

module _ (b : Book) {R : Type 0} (W : Walker R) where
  -- any count that is large enough gives the same
  pub walk-count : (m n i : ℕ) (o : W.Memory) (l : List ℤ) → length l ≤ m → length l ≤ n → walk b W m i o l ≡ walk b W n i o l
  unfolding walk
  walk-count zero zero i o l h g = refl
  walk-count zero (suc n) i o [] h g = refl
  walk-count (suc m) zero i o [] h g = refl
  walk-count (suc m) (suc n) i o [] h g = refl
  walk-count zero (suc n) i o (x ∷ l) h g = absurd (not-suc-le-zero h)
  walk-count (suc m) zero i o (x ∷ l) h g = absurd (not-suc-le-zero g)
  walk-count (suc m) (suc n) i o (x ∷ l) h g =
      let k = clause_number b x in
      let r = drop W.gap (drop (clause_at b k).vars l) in
      let z : length r ≤ length l = simp length-drop (omega arith) in
      ap (W.step k l i o) (walk-count m n _ _ r (omega arith) (omega arith))

  -- the walk from place i on, where o is what is remembered
  unfoldable pub walked : List ℤ → ℕ → W.Memory → R
  walked l i o = walk b W (length l - i) i o (drop i l)

  pub walked_all : (l : List ℤ) (m i : ℕ) (o : W.Memory) → length l ≤ m + i → walk b W m i o (drop i l) ≡ walked l i o
  unfolding walked
  walked_all l m i o h = walk-count m (length l - i) i o (drop i l) (rw length-drop (omega arith)) (rw length-drop (omega arith))

  pub walked_none : (l : List ℤ) (i : ℕ) (o : W.Memory) → length l ≤ i → walked l i o ≡ W.ended i o
  unfolding walked walk
  walked_none l i o h =
      let z : length l - i ≡ 0 = omega arith in
      rw z

  module _ (P : R → Type 0) where
    -- what holds of each end, and before a step where it holds after it, holds of the walk
    pub walk-keeps : ((i : ℕ) (o : W.Memory) → P (W.ended i o)) → ((k : ℕ) (l : List ℤ) (i : ℕ) (o : W.Memory) (r : R) → P r → P (W.step k l i o r))
        → (m i : ℕ) (o : W.Memory) (l : List ℤ) → P (walk b W m i o l)
    unfolding walk
    walk-keeps end more zero i o l = end i o
    walk-keeps end more (suc m) i o [] = end i o
    walk-keeps end more (suc m) i o (x ∷ l) = more _ l i o _ (walk-keeps end more m _ _ _)
