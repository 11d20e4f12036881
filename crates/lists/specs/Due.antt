-- The walks of a derivation, of a trace and of a list's steps, from a place of the list on.
use Rattle.std.specs.Prelude.{◌≡◌, List, [], ℕ, ◌≤◌, length, ℤ}
use Rattle.std.proofs.Math.Path.{ap}
use Rattle.std.proofs.Common.{arith}
use Rattle.std.proofs.Math.Option.{Option, none, some}
use Rattle.meaning.specs.Book.{Book, Fact, Step}
use Rattle.meaning.specs.State.{Control, State}
use Rattle.reply.specs.Answer.{Answer, ok, need, and_then}
use Rattle.lists.specs.Compare.{same}
use Rattle.lists.specs.Derivation.{derivation_walk, check}
use Rattle.lists.specs.Trace.{size, has, trace_walk, first_of, judge_first, check_walk}
use Rattle.lists.specs.Convert.{steps_walk, derivation_steps, trace_steps}
use Rattle.lists.specs.Walked.{walked, walked_all, walked_none}

-- ---- derivations

module _ (b : Book) (f : Fact) where
  -- what is due from place i on, where o is the fact just before
  unfoldable pub due : List ℤ → ℕ → Option Fact → Answer
  due = walked b (derivation_walk b f)

  pub due_all : (l : List ℤ) → check b f l ≡ due l 0 none
  unfolding due check
  due_all l = walked_all b (derivation_walk b f) l (length l) 0 none (omega arith)

  pub due-none : (l : List ℤ) (i : ℕ) (o : Option Fact) → length l ≤ i → due l i o ≡ need (same o (some f)) 17 i ok
  unfolding due
  due-none = walked_none b (derivation_walk b f)

-- ---- traces

module _ (b : Book) (C : Control) (f : Fact) where
  -- what is due from place i on, where σ is the state there
  unfoldable pub walk_due : List ℤ → ℕ → State C → Answer
  walk_due = walked b (trace_walk b C f)

  pub walk-due-all : (l : List ℤ) → check_walk b C f l ≡ and_then (judge_first b C l) (walk_due l (size b C) (first_of b C l))
  unfolding walk_due check_walk
  walk-due-all l = ap (and_then (judge_first b C l)) (walked_all b (trace_walk b C f) l (length l) (size b C) (first_of b C l) (omega arith))

  pub walk-due-none : (l : List ℤ) (i : ℕ) (σ : State C) → length l ≤ i → walk_due l i σ ≡ need (has b C f σ) 17 i ok
  unfolding walk_due
  walk-due-none = walked_none b (trace_walk b C f)

-- ---- the steps that a list tells

module _ (b : Book) (gap : ℕ) where
  -- the steps from place i on
  unfoldable pub steps_due : List ℤ → ℕ → List Step
  steps_due l i = walked b (steps_walk b gap) l i tt

  pub steps-due-none : (l : List ℤ) (i : ℕ) → length l ≤ i → steps_due l i ≡ []
  unfolding steps_due
  steps-due-none l i h = walked_none b (steps_walk b gap) l i tt h

pub derivation-steps-due : (b : Book) (l : List ℤ) → derivation_steps b l ≡ steps_due b 0 l 0
unfolding steps_due derivation_steps
derivation-steps-due b l = walked_all b (steps_walk b 0) l (length l) 0 tt (omega arith)

pub trace-steps-due : (b : Book) (C : Control) (l : List ℤ) → trace_steps b C l ≡ steps_due b (size b C) l (size b C)
unfolding steps_due trace_steps
trace-steps-due b C l = walked_all b (steps_walk b (size b C)) l (length l) (size b C) tt (omega arith)
