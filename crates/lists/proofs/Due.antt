-- The walks of a derivation, of a trace and of a list's steps, from a place where a step starts.
use Rattle.std.specs.Prelude.{◌≡◌, List, ◌∷◌, ℕ, ◌+◌, ◌<◌, length, get_or, drop, ℤ, pos}
use Rattle.std.proofs.Common.{◌∙◌}
use Rattle.std.proofs.Math.Option.{Option, some}
use Rattle.std.proofs.Math.Nat.{add-zero}
use Rattle.meaning.specs.Book.{Book, Fact, head}
use Rattle.meaning.specs.State.{Control, State, write}
use Rattle.reply.specs.Answer.{and_then}
use Rattle.lists.specs.Instance.{clause_number, clause_at, step_at}
use Rattle.lists.specs.Derivation.{judge_step, derivation_walk}
use Rattle.lists.specs.Trace.{size, judge_move, trace_walk}
use Rattle.lists.specs.Convert.{steps_walk}
use Rattle.lists.specs.Walked.{step_here, after}
use Rattle.lists.specs.Due.{due, walk_due, steps_due}
use Rattle.lists.proofs.Walked.{walked_more}

-- ---- derivations

module _ (b : Book) (f : Fact) where
  pub due-more : (l : List ℤ) (i : ℕ) (o : Option Fact) → i < length l →
      let k = clause_number b (get_or l i (pos 0)) in
      let r = drop (i + 1) l in
      due b f l i o ≡ and_then (judge_step b k r i o) (due b f l (i + 1 + (clause_at b k).vars) (some (head b (step_at b k r))))
  unfolding due
  due-more l i o h = walked_more b (derivation_walk b f) l i o h ∙ rw add-zero

-- ---- traces

module _ (b : Book) (C : Control) (f : Fact) where
  pub walk-due-more : (l : List ℤ) (i : ℕ) (σ : State C) → i < length l →
      let k = clause_number b (get_or l i (pos 0)) in
      let r = drop (i + 1) l in
      walk_due b C f l i σ ≡ and_then (judge_move b C k r i σ) (walk_due b C f l (i + 1 + (clause_at b k).vars + size b C) (write C (head b (step_at b k r)) σ))
  unfolding walk_due
  walk-due-more = walked_more b (trace_walk b C f)

-- ---- the steps that a list tells

module _ (b : Book) (gap : ℕ) where
  pub steps-due-more : (l : List ℤ) (i : ℕ) → i < length l → steps_due b gap l i ≡ step_here b l i ∷ steps_due b gap l (after b gap l i)
  unfolding steps_due
  steps-due-more l i h = walked_more b (steps_walk b gap) l i tt h
