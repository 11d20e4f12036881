-- What the two conversions write is accepted for the same goal, in as many steps or fewer; over and back is the same list.
use Rattle.std.specs.Prelude.{◌≡◌, refl, ◌↔◌, Bool, ℕ, ◌+◌, ◌*◌, ◌≤◌, ◌<◌, eqb, ℤ}
use Rattle.std.proofs.Math.Path.{ap}
use Rattle.std.proofs.Common.{◌∙◌}
use Rattle.std.proofs.Math.Bool.{true, false}
use Rattle.std.proofs.Math.Option.{Option, none, some}
use mathlib.Core.List.{List, [], ◌∷◌, map, reverse, reverse_aux}
use native.Mathlib.Omega.{arith}
use Rattle.std.proofs.Math.ListN.{length}
use Rattle.meaning.specs.Book.{Book, Fact, Step, head, body}
use Rattle.meaning.specs.Limits.{Limits}
use Rattle.meaning.specs.Derivation.{Derives}
use Rattle.meaning.specs.System.{Reaches, moves, steps, turn, back, last_writers}
use Rattle.meaning.specs.State.{Control, with_places, first}
use Rattle.meaning.specs.Laws.{ControlLaws, laws}
use Rattle.meaning.specs.Conversions.{steps-moves, writers-length, writers-derivation}
use Rattle.meaning.specs.Main.{trace-to-derivation, derivation-to-first-trace}
use Rattle.reply.specs.Answer.{ok}
use Rattle.lists.specs.Derivation.{numbers, goal, check_derivation}
use Rattle.lists.specs.Trace.{sum, size, check_trace}
use Rattle.lists.specs.Convert.{derivation_steps, trace_steps, as_trace, as_derivation}
use Rattle.lists.specs.Exact.{check_derivation-exact}
use Rattle.lists.specs.Walk.{Trace, check_trace-exact}
use Rattle.lists.specs.Runs.{step_length}
use Rattle.lists.specs.Numbers.{gaps-longer, steps-of-numbers, numbers-length, steps-of-trace, trace-length}

-- ---- the last writers are some of the steps

module _ (b : Book) (w : Step → ℕ) where
  turn-weight : (t : Bool) (s : Step) (o : Option Fact) (r : ℕ) (k : ℕ → List Step) (n : ℕ) → ((q : ℕ) → sum (map w (k q)) ≤ n) → sum (map w (turn t s o r k)) ≤ w s + n
  unfolding sum
  turn-weight true s none r k n h = omega arith
  turn-weight true s (some g) r k n h = omega (arith, h g.rel)
  turn-weight false s o r k n h = omega (arith, h r)

  back-weight : (r : ℕ) (τ : List Step) → sum (map w (back b r τ)) ≤ sum (map w τ)
  unfolding back sum
  back-weight r [] = omega arith
  back-weight r (s ∷ τ) = turn-weight (eqb (head b s).rel r) s (body b s) r (λ q. back b q τ) (sum (map w τ)) (λ q. back-weight q τ)

  reverse-weight : (x y : List Step) → sum (map w (reverse_aux x y)) ≡ sum (map w x) + sum (map w y)
  unfolding sum
  reverse-weight [] y = omega arith
  reverse-weight (s ∷ x) y = omega (arith, reverse-weight x (s ∷ y))

  pub writers-weight : (r : ℕ) (τ : List Step) → sum (map w (last_writers b r τ)) ≤ sum (map w τ)
  unfolding last_writers sum
  writers-weight r τ = omega (arith, reverse-weight (back b r (reverse τ)) [], back-weight r (reverse τ), reverse-weight τ [])

-- a derivation has a number
some_number : (b : Book) (d : List Step) (f : Fact) → Derives b d f → 0 < length (numbers d)
unfolding numbers
some_number b [] f h = let z : ◌≡◌ {A = ℕ} 0 1 = cc h.last in omega arith
some_number b (s ∷ d) f h = omega arith

-- ---- what an accepted list tells

pub derivation-read : (b : Book) (r : ℕ) (vals l : List ℤ) → check_derivation b r vals l ≡ ok → (numbers (derivation_steps b l) ≡ l) × Derives b (derivation_steps b l) (goal r vals)
derivation-read b r vals l e =
    let h = (check_derivation-exact b r vals l).0 e in
    let told : derivation_steps b l ≡ h.steps = rw h.listed at (steps-of-numbers b (goal r vals) h.steps h.derives) in
    rw told (h.listed, h.derives)

module _ (b : Book) (C : Control) (K : ControlLaws C) (L : Limits b) (r : ℕ) (vals l : List ℤ) where
  trace-read : (h : Trace b C r vals l) → trace_steps b C l ≡ steps b (with_places b C) h.moves
  trace-read h = rw h.listed at (steps-of-trace b C K L (goal r vals) h.first h.moves h.reaches)

  -- ---- derivation to trace

  reached : check_derivation b r vals l ≡ ok → Reaches b (with_places b C) (first b C) (moves b (with_places b C) (first b C) (derivation_steps b l)) (goal r vals)
  reached e = derivation-to-first-trace L C K (derivation-read b r vals l e).1

  -- the trace tells the derivation's steps, and so has as many
  pub as_trace-steps : check_derivation b r vals l ≡ ok → trace_steps b C (as_trace b C l) ≡ derivation_steps b l
  unfolding as_trace
  as_trace-steps e =
      let σ = first b C in
      let d = derivation_steps b l in
      steps-of-trace b C K L (goal r vals) σ (moves b (with_places b C) σ d) (reached e) ∙ steps-moves b (with_places b C) σ d

  pub as-many-steps : check_derivation b r vals l ≡ ok → length (trace_steps b C (as_trace b C l)) ≡ length (derivation_steps b l)
  as-many-steps e = ap length (as_trace-steps e)

  pub as_trace-length : check_derivation b r vals l ≡ ok → length (as_trace b C l) ≡ size b C + length l + length (derivation_steps b l) * size b C
  unfolding as_trace
  as_trace-length e =
      let σ = first b C in
      let d = derivation_steps b l in
      let (p, h) = derivation-read b r vals l e in
      omega (
        arith,
        trace-length b C K L (goal r vals) σ (moves b (with_places b C) σ d) (reached e),
        ap (λ (τ : List Step). sum (map (step_length b (size b C)) τ)) (steps-moves b (with_places b C) σ d),
        gaps-longer b (size b C) d,
        numbers-length b (goal r vals) d h,
        ap length p,
      )

  pub as_trace-accepted : check_derivation b r vals l ≡ ok → length (as_trace b C l) ≤ 1000000 → check_trace b C r vals (as_trace b C l) ≡ ok
  unfolding as_trace
  as_trace-accepted e n =
      let q = ((check_derivation-exact b r vals l).0 e).asked in
      (check_trace-exact b C K L r vals (as_trace b C l)).1 (record {
        asked = record { there = q.there; full = q.full; some = omega (arith, as_trace-length e); few = n };
        first = first b C;
        moves = moves b (with_places b C) (first b C) (derivation_steps b l);
        listed = refl;
        reaches = reached e;
      })

  -- number for number
  pub over-and-back : check_derivation b r vals l ≡ ok → as_derivation b C r (as_trace b C l) ≡ l
  unfolding as_derivation
  over-and-back e =
      let (p, h) = derivation-read b r vals l e in
      rw (as_trace-steps e, writers-derivation b (derivation_steps b l) (goal r vals) h) p

  -- ---- trace to derivation

  last-derives : check_trace b C r vals l ≡ ok → Derives b (last_writers b r (trace_steps b C l)) (goal r vals)
  last-derives e =
      let h = (check_trace-exact b C K L r vals l).0 e in
      rw (trace-read h) (trace-to-derivation L (with_places b C) (laws b C K) h.reaches).0

  -- what is written tells the last writers
  pub as_derivation-steps : check_trace b C r vals l ≡ ok → derivation_steps b (as_derivation b C r l) ≡ last_writers b r (trace_steps b C l)
  unfolding as_derivation
  as_derivation-steps e = steps-of-numbers b (goal r vals) (last_writers b r (trace_steps b C l)) (last-derives e)

  pub no-more-steps : check_trace b C r vals l ≡ ok → length (derivation_steps b (as_derivation b C r l)) ≤ length (trace_steps b C l)
  no-more-steps e = rw (as_derivation-steps e) (writers-length b r (trace_steps b C l))

  -- with a state for each step and one in front it is no longer than the trace
  as_derivation-fits : check_trace b C r vals l ≡ ok → size b C + length (as_derivation b C r l) + length (derivation_steps b (as_derivation b C r l)) * size b C ≤ length l
  unfolding as_derivation
  as_derivation-fits e =
      let h = (check_trace-exact b C K L r vals l).0 e in
      let τ = trace_steps b C l in
      let d = last_writers b r τ in
      let n : length l ≡ size b C + sum (map (step_length b (size b C)) τ) = rw (trace-read h) (rw h.listed at (trace-length b C K L (goal r vals) h.first h.moves h.reaches)) in
      rw (as_derivation-steps e) (omega (arith, writers-weight b (step_length b (size b C)) r τ, gaps-longer b (size b C) d, numbers-length b (goal r vals) d (last-derives e)))

  pub as_derivation-length : check_trace b C r vals l ≡ ok → length (as_derivation b C r l) ≤ length l
  as_derivation-length e = omega (arith, as_derivation-fits e)

  pub as_derivation-accepted : check_trace b C r vals l ≡ ok → check_derivation b r vals (as_derivation b C r l) ≡ ok
  unfolding as_derivation
  as_derivation-accepted e =
      let q = ((check_trace-exact b C K L r vals l).0 e).asked in
      let d = last_writers b r (trace_steps b C l) in
      (check_derivation-exact b r vals (as_derivation b C r l)).1 (record {
        asked = record { there = q.there; full = q.full; some = some_number b d (goal r vals) (last-derives e); few = omega (arith, as_derivation-length e) };
        steps = d;
        listed = refl;
        derives = last-derives e;
      })

-- back and over: no longer than the trace that it came from
pub shorter-trace : (b : Book) (C : Control) (K : ControlLaws C) (L : Limits b) (r : ℕ) (vals l : List ℤ) → check_trace b C r vals l ≡ ok
    → length (as_trace b C (as_derivation b C r l)) ≤ length l
shorter-trace b C K L r vals l e =
    omega (arith, as_trace-length b C K L r vals (as_derivation b C r l) (as_derivation-accepted b C K L r vals l e), as_derivation-fits b C K L r vals l e)

-- some list is accepted as a trace just where some list is accepted as a derivation whose trace is within the limit
pub accepted-either-way : (b : Book) (C : Control) (K : ControlLaws C) (L : Limits b) (r : ℕ) (vals : List ℤ)
    → ((l : List ℤ) × (check_trace b C r vals l ≡ ok)) ↔ ((l : List ℤ) × (check_derivation b r vals l ≡ ok) × (length (as_trace b C l) ≤ 1000000))
accepted-either-way b C K L r vals = (
  λ h. let (l, e) = h in
      let q = ((check_trace-exact b C K L r vals l).0 e).asked in
      (as_derivation b C r l, as_derivation-accepted b C K L r vals l e, omega (arith, shorter-trace b C K L r vals l e)),
  λ h. (as_trace b C h.0, as_trace-accepted b C K L r vals h.0 h.1 h.2),
)
