-- The numbers of a derivation and of a trace tell its steps, and how many there are.
use Rattle.std.specs.Prelude.{◌≡◌, List, [], ◌∷◌, ◌++◌, map}
use Rattle.std.proofs.Math.Path.{ap₂}
use Rattle.std.proofs.Common.{◌∙◌, le_refl, arith, drop_at}
use Rattle.std.proofs.Math.Option.{none}
use Prim.Native.Nat.{ℕ, ◌+◌, ◌*◌}
use Rattle.std.proofs.Math.ListN.{length, length-append}
use Rattle.meaning.specs.Book.{Book, Fact, Step}
use Rattle.meaning.specs.Limits.{Limits}
use Rattle.meaning.specs.Derivation.{Derives}
use Rattle.meaning.specs.System.{Move, Reaches, steps}
use Rattle.meaning.specs.State.{Control, State, with_places}
use Rattle.meaning.specs.Laws.{ControlLaws}
use Rattle.lists.specs.Derivation.{numbers, derivation_walk}
use Rattle.lists.specs.Trace.{sum, state_numbers, size, move_numbers, trace_numbers, trace_walk}
use Rattle.lists.specs.Convert.{derivation_steps, trace_steps}
use Rattle.lists.specs.Runs.{Runs, step_length, written-length, written-told}
use Rattle.lists.specs.Exact.{derivation_sense, numbers-written, derivation-runs}
use Rattle.lists.specs.Walk.{initial-good, state-length, trace_sense, trace-written, trace-runs}

-- a gap in each step adds its length as often as there are steps
pub gaps-longer : (b : Book) (gap : ℕ) (d : List Step) → sum (map (step_length b gap) d) ≡ sum (map (step_length b 0) d) + length d * gap
unfolding sum
gaps-longer b gap [] = omega arith
gaps-longer b gap (s ∷ d) = omega (arith, gaps-longer b gap d)

module _ (b : Book) (f : Fact) (d : List Step) (h : Derives b d f) where
  derived : Runs b (derivation_walk b f) (derivation_sense b f) none d
  derived = (derivation-runs b f none d).1 (h.chain, h.last)

  pub steps-of-numbers : derivation_steps b (numbers d) ≡ d
  unfolding derivation_steps
  steps-of-numbers = rw (numbers-written b f none d) at (written-told b (derivation_walk b f) (derivation_sense b f) _ 0 none d (le_refl _) derived)

  pub numbers-length : length (numbers d) ≡ sum (map (step_length b 0) d)
  numbers-length = rw (numbers-written b f none d) at (written-length b (derivation_walk b f) (derivation_sense b f) none d derived)

module _ (b : Book) (C : Control) (K : ControlLaws C) (L : Limits b) (f : Fact) (σ : State C) (ms : List (Move b (with_places b C))) (h : Reaches b (with_places b C) σ ms f) where
  reached : Runs b (trace_walk b C f) (trace_sense b C f) σ (steps b (with_places b C) ms)
  reached = trace-runs b C K L f σ ms (initial-good b C K h.init) h.follows h.holds

  first-length : length (state_numbers b C σ) ≡ size b C
  first-length = state-length b C K σ (initial-good b C K h.init)

  pub steps-of-trace : trace_steps b C (trace_numbers b C σ ms) ≡ steps b (with_places b C) ms
  unfolding trace_steps trace_numbers
  steps-of-trace =
      let w = trace-written b C f σ ms h.follows in
      let d = steps b (with_places b C) ms in
      let n = length (state_numbers b C σ ++ move_numbers b C ms) in
      rw (drop_at (state_numbers b C σ) (move_numbers b C ms) (size b C) first-length)
      (rw w at (written-told b (trace_walk b C f) (trace_sense b C f) n (size b C) σ d (rw (w, length-append) (omega arith)) reached))

  pub trace-length : length (trace_numbers b C σ ms) ≡ size b C + sum (map (step_length b (size b C)) (steps b (with_places b C) ms))
  unfolding trace_numbers
  trace-length =
      length-append (state_numbers b C σ) (move_numbers b C ms)
      ∙ ap₂ ◌+◌ first-length (rw (trace-written b C f σ ms h.follows) at (written-length b (trace_walk b C f) (trace_sense b C f) σ (steps b (with_places b C) ms) reached))
