-- The steps of a list by their places, and derivation to trace from a place where a step starts, for loops.
use Rattle.std.specs.Prelude.{◌≡◌, List, [], ◌∷◌, ◌++◌, take, drop, ℤ, pos}
use Rattle.std.proofs.Math.Path.{refl}
use Rattle.std.proofs.Math.Option.{none}
use Prim.Native.Nat.{ℕ, zero, suc, ◌+◌, ◌≤◌, ◌<◌}
use Rattle.std.proofs.Common.{add-zero, add-one, arith, length-drop, drop-drop, take-add, take_all}
use Rattle.std.proofs.Math.Decide.{dec_lt}
use Rattle.std.proofs.Math.ListN.{length}
use Rattle.meaning.specs.Book.{Book, Instance, head}
use Rattle.meaning.specs.State.{Control, State, write}
use Rattle.reply.specs.Answer.{ok}
use Rattle.lists.specs.Derivation.{derivation_walk, check, goal, check_derivation}
use Rattle.lists.specs.Trace.{state_numbers, move_numbers}
use Rattle.lists.specs.Laws.{asked-exact}
use Rattle.lists.specs.Walked.{clause_here, step_here, after, start}
use Rattle.lists.specs.Due.{due, due_all, steps_due, steps-due-none}
use Rattle.lists.specs.Exact.{derivation_sense}
use Rattle.lists.specs.Places.{count_due, derivation_start, trace_due}
use Rattle.lists.proofs.Due.{steps-due-more}
use Rattle.lists.proofs.Runs.{step-in-walk}

-- `gap` numbers stand after each step's values: none in a derivation, a state in a trace
module _ (b : Book) (gap : ℕ) where
  one_less : (l : List ℤ) (i : ℕ) → drop 1 (steps_due b gap l i) ≡ steps_due b gap l (after b gap l i)
  one_less l i = go (dec_lt i (length l))
    where
      go : Dec (i < length l) → drop 1 (steps_due b gap l i) ≡ steps_due b gap l (after b gap l i)
      go (yes h) = rw (steps-due-more b gap l i h)
      go (no n) = rw (steps-due-none b gap l i (omega arith), steps-due-none b gap l (after b gap l i) (omega arith))

  -- after j steps, those from the place where step j starts are left
  pub steps-left : (l : List ℤ) (i j : ℕ) → drop j (steps_due b gap l i) ≡ steps_due b gap l (start b gap l i j)
  unfolding start
  steps-left l i zero = refl
  steps-left l i (suc j) = rw (← (add-one j), ← (drop-drop 1 j (steps_due b gap l i)), steps-left l i j) (one_less l (start b gap l i j))

  -- one step more
  pub steps-taken : (l : List ℤ) (i j : ℕ) → start b gap l i j < length l → take (j + 1) (steps_due b gap l i) ≡ take j (steps_due b gap l i) ++ (step_here b l (start b gap l i j) ∷ [])
  steps-taken l i j h = rw (take-add j 1 (steps_due b gap l i), steps-left l i j, steps-due-more b gap l (start b gap l i j) h)

  pub steps_all : (l : List ℤ) (i j : ℕ) → length l ≤ start b gap l i j → take j (steps_due b gap l i) ≡ steps_due b gap l i
  steps_all l i j h =
      let z : length (drop j (steps_due b gap l i)) ≡ 0 = rw (steps-left l i j, steps-due-none b gap l (start b gap l i j) h) in
      take_all j (steps_due b gap l i) (omega (arith, length-drop j (steps_due b gap l i)))

-- ---- derivation to trace

module _ (b : Book) (l : List ℤ) where
  pub count-due-more : (i : ℕ) → i < length l → count_due b l i ≡ 1 + count_due b l (i + 1 + (clause_here b l i).vars)
  unfolding count_due
  count-due-more i h = rw (steps-due-more b 0 l i h, add-zero) (omega arith)

  -- ---- an accepted derivation by its places

  -- each step is an instance and stands there in full
  pub step-in-derivation : (r : ℕ) (vals : List ℤ) → check_derivation b r vals l ≡ ok → (j : ℕ) → derivation_start b l j < length l
      → Instance b (step_here b l (derivation_start b l j)) × (derivation_start b l (j + 1) ≤ length l)
  unfolding check_derivation due
  step-in-derivation r vals e =
      let f = goal r vals in
      step-in-walk b (derivation_walk b f) (derivation_sense b f) l 0 none (rw (due_all b f l) at ((asked-exact b r vals l (check b f l)).0 e).1)

module _ (b : Book) (C : Control) (l : List ℤ) where
  pub trace-due-more : (i : ℕ) (σ : State C) → i < length l →
      let s = step_here b l i in
      let σ' = write C (head b s) σ in
      trace_due b C l i σ ≡ pos s.clause ∷ (s.vals ++ (state_numbers b C σ' ++ trace_due b C l (i + 1 + (clause_here b l i).vars) σ'))
  unfolding trace_due move_numbers
  trace-due-more i σ h = rw (steps-due-more b 0 l i h, add-zero)
