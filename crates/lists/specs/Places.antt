-- The steps of a list by their places, and derivation to trace from a place on, for loops.
use Rattle.std.specs.Prelude.{◌≡◌, List, [], ◌++◌, ℤ}
use Rattle.std.proofs.Math.Path.{ap}
use Prim.Native.Nat.{ℕ, ◌≤◌}
use Rattle.std.proofs.Math.ListN.{length}
use Rattle.meaning.specs.Book.{Book}
use Rattle.meaning.specs.System.{moves}
use Rattle.meaning.specs.State.{Control, State, with_places, first}
use Rattle.lists.specs.Trace.{state_numbers, move_numbers, trace_numbers}
use Rattle.lists.specs.Convert.{derivation_steps, as_trace}
pub use Rattle.lists.specs.Walked.{clause_here, step_here, numbers-here, after, start_first, start-next}
unfoldable pub use Rattle.lists.specs.Walked.{start}
use Rattle.lists.specs.Due.{steps_due, steps-due-none, derivation-steps-due}

-- ---- derivation to trace

-- how many steps a derivation has from place i on
unfoldable pub count_due : Book → List ℤ → ℕ → ℕ
count_due b l i = length (steps_due b 0 l i)

module _ (b : Book) (l : List ℤ) where
  pub count-due-all : length (derivation_steps b l) ≡ count_due b l 0
  unfolding count_due
  count-due-all = ap length (derivation-steps-due b l)

  pub count-due-none : (i : ℕ) → length l ≤ i → count_due b l i ≡ 0
  unfolding count_due
  count-due-none i h = ap length (steps-due-none b 0 l i h)

  -- ---- an accepted derivation by its places

  -- the place where step j of the derivation starts
  abbrev pub derivation_start : ℕ → ℕ
  derivation_start j = start b 0 l 0 j

module _ (b : Book) (C : Control) (l : List ℤ) where
  -- what is still to be written from place i of the derivation on, in the state σ
  unfoldable pub trace_due : ℕ → State C → List ℤ
  trace_due i σ = move_numbers b C (moves b (with_places b C) σ (steps_due b 0 l i))

  pub trace-due-all : as_trace b C l ≡ state_numbers b C (first b C) ++ trace_due 0 (first b C)
  unfolding as_trace trace_due trace_numbers
  trace-due-all = rw (derivation-steps-due b l)

  pub trace-due-none : (i : ℕ) (σ : State C) → length l ≤ i → trace_due i σ ≡ []
  unfolding trace_due move_numbers
  trace-due-none i σ h = rw (steps-due-none b 0 l i h)
