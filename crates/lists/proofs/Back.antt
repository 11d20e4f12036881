-- Trace to derivation by the places of the trace's steps, a step at a time, for loops.
use Rattle.std.specs.Prelude.{◌≡◌, ◌≢◌, ℕ, zero, suc, ◌+◌, ◌≤◌, ◌<◌, length, take, drop, ℤ, pos}
use Rattle.std.proofs.Common.{sym, ◌∙◌, add-one, arith, length-append, length-take}
use Rattle.std.proofs.Math.Option.{Option, none, some}
use mathlib.Core.List.{List, [], ◌∷◌, ◌++◌}
use Rattle.std.proofs.Math.Decide.{ℕ_discrete, dec_lt}
use Rattle.meaning.specs.Book.{Book, Instance}
use Rattle.meaning.specs.State.{Control}
use Rattle.reply.specs.Answer.{ok}
use Rattle.reply.specs.Among.{and_split}
use Rattle.lists.specs.Derivation.{goal}
use Rattle.lists.specs.Trace.{size, trace_walk, first_of, check_walk, check_trace}
use Rattle.lists.specs.Convert.{trace_steps, as_derivation}
use Rattle.lists.specs.Among.{among_first}
use Rattle.lists.specs.Laws.{asked-exact}
use Rattle.lists.specs.Walked.{clause_here, step_here, after, start-next}
use Rattle.lists.specs.Due.{walk_due, walk-due-all, trace-steps-due}
use Rattle.lists.specs.Walk.{trace_sense}
use Rattle.lists.specs.Back.{relation_of, walk_back, back-wrote, back-other, trace_start, coming, coming-none, coming-first}
use Rattle.lists.proofs.Runs.{step-in-walk}
use Rattle.lists.proofs.Places.{steps-taken, steps_all}

module _ (b : Book) (C : Control) (l : List ℤ) where
  -- all of it, where step j would start at the end
  pub coming-all : (r j : ℕ) → length l ≤ trace_start b C l j → coming b C l (some r) j ≡ as_derivation b C r l
  unfolding coming walk_back as_derivation
  coming-all r j h = rw (trace-steps-due b C l, steps_all b (size b C) l (size b C) j h)

  module _ (j : ℕ) (h : trace_start b C l j < length l) where
    last_step : take (j + 1) (trace_steps b C l) ≡ take j (trace_steps b C l) ++ (step_here b l (trace_start b C l j) ∷ [])
    last_step = rw (trace-steps-due b C l) (steps-taken b (size b C) l (size b C) j h)

    -- step j wrote what is wanted: its numbers, and then its body's relation is wanted
    pub coming-wrote : (r : ℕ) → (clause_here b l (trace_start b C l j)).head.rel ≡ r →
        let s = step_here b l (trace_start b C l j) in
        coming b C l (some r) (j + 1) ≡ coming b C l (relation_of (clause_here b l (trace_start b C l j)).body) j ++ (pos s.clause ∷ s.vals)
    unfolding coming
    coming-wrote r e = rw last_step (back-wrote b (take j (trace_steps b C l)) (step_here b l (trace_start b C l j)) r e)

    -- it did not
    pub coming-other : (r : ℕ) → (clause_here b l (trace_start b C l j)).head.rel ≢ r → coming b C l (some r) (j + 1) ≡ coming b C l (some r) j
    unfolding coming
    coming-other r n = rw last_step (back-other b (take j (trace_steps b C l)) (step_here b l (trace_start b C l j)) r n)

  longer : (r j : ℕ) → ((w : Option ℕ) → length (coming b C l w j) ≤ trace_start b C l j) → length (coming b C l (some r) (j + 1)) ≤ trace_start b C l (j + 1)
  longer r j short = go (dec_lt (trace_start b C l j) (length l)) (ℕ_discrete (clause_here b l (trace_start b C l j)).head.rel r)
    where
      next : trace_start b C l (j + 1) ≡ after b (size b C) l (trace_start b C l j)
      next = start-next b (size b C) l (size b C) j

      go : Dec (trace_start b C l j < length l) → Dec ((clause_here b l (trace_start b C l j)).head.rel ≡ r) → length (coming b C l (some r) (j + 1)) ≤ trace_start b C l (j + 1)
      go (yes h) (yes e) =
          let c = clause_here b l (trace_start b C l j) in
          rw (coming-wrote j h r e, length-append) (omega (arith, next, short (relation_of c.body), length-take c.vars (drop (trace_start b C l j + 1) l)))
      go (yes h) (no n) = rw (coming-other j h r n) (omega (arith, next, short (some r)))
      go (no h) d =
          let same : coming b C l (some r) (j + 1) ≡ coming b C l (some r) j = coming-all r (j + 1) (omega (arith, next)) ∙ sym (coming-all r j (omega arith)) in
          rw same (omega (arith, next, short (some r)))

  -- never more numbers than stand before step j
  pub coming-length : (j : ℕ) (w : Option ℕ) → length (coming b C l w j) ≤ trace_start b C l j
  coming-length zero w = rw (coming-first b C l w) (omega arith)
  coming-length (suc j) none = rw (coming-none b C l (suc j)) (omega arith)
  coming-length (suc j) (some r) = rw (add-one j) at (longer r j (coming-length j))

  -- ---- an accepted trace by its places

  -- each step is an instance and stands there in full, with its next state
  pub step-in-trace : (r : ℕ) (vals : List ℤ) → check_trace b C r vals l ≡ ok → (j : ℕ) → trace_start b C l j < length l
      → Instance b (step_here b l (trace_start b C l j)) × (trace_start b C l (j + 1) ≤ length l)
  unfolding check_trace walk_due
  step-in-trace r vals e =
      let f = goal r vals in
      let w = rw (walk-due-all b C f l) at ((asked-exact b r vals l (check_walk b C f l)).0 e).1 in
      step-in-walk b (trace_walk b C f) (trace_sense b C f) l (size b C) (first_of b C l) (and_split _ (among_first b C l) w).1
