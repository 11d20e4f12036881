-- Trace to derivation by the places of the trace's steps, for loops.
-- First the code measures: over the steps in order it keeps, for each relation q, how many numbers `coming (some q) j` has; at the end it has the derivation's length.
-- Then it writes, over the steps from the last to the first: w is the relation that is wanted, and `coming w j` is what is still to be written in front of what
-- the room has, so the room's front is filled from its end downwards. Where no relation is wanted any more, nothing is left to write.
use Rattle.std.specs.Prelude.{◌≡◌, ◌≢◌, ℕ, take, ℤ, pos}
use Rattle.std.proofs.Math.Path.{refl}
use Rattle.std.proofs.Math.Option.{Option, none, some}
use mathlib.Core.List.{List, [], ◌∷◌, ◌++◌, reverse, append-nil, append_assoc, reverse-append, reverse-cons}
use borrow.Author.Tests.{eq-eqb, ne_eqb}
use Rattle.meaning.specs.Book.{Book, Atom, Step, head, body, at_body, clause_of}
use Rattle.meaning.specs.System.{before, back, last_writers}
use Rattle.meaning.specs.State.{Control}
use Rattle.lists.specs.Derivation.{numbers}
use Rattle.lists.specs.Trace.{size}
use Rattle.lists.specs.Convert.{trace_steps}
use Rattle.lists.specs.Walked.{start}

numbers-append : (d e : List Step) → numbers (d ++ e) ≡ numbers d ++ numbers e
unfolding numbers
numbers-append [] e = refl
numbers-append (s ∷ d) e = rw (numbers-append d e, append_assoc)

-- the relation of a body
abbrev pub relation_of : Option Atom → Option ℕ
relation_of none = none
relation_of (some a) = some a.rel

-- the numbers of the walk back over some steps, from the relation that is wanted
unfoldable pub walk_back : Book → Option ℕ → List Step → List ℤ
walk_back b none τ = []
walk_back b (some r) τ = numbers (last_writers b r τ)

module _ (b : Book) (τ : List Step) (s : Step) where
  newest : (r : ℕ) → back b r (reverse (τ ++ (s ∷ []))) ≡ back b r (s ∷ reverse τ)
  newest r = rw (reverse-append τ (s ∷ []))

  wrote : (o : Option Atom) → numbers (reverse (s ∷ before (at_body s.vals o) (λ q. back b q (reverse τ)))) ≡ walk_back b (relation_of o) τ ++ (pos s.clause ∷ s.vals)
  unfolding walk_back last_writers numbers
  wrote none = rw append-nil
  wrote (some a) = rw (reverse-cons s (back b a.rel (reverse τ)), numbers-append, append-nil)

  -- the last step wrote the relation: it stands last, and before it the walk back from its body's
  pub back-wrote : (r : ℕ) → (clause_of b s).head.rel ≡ r → walk_back b (some r) (τ ++ (s ∷ [])) ≡ walk_back b (relation_of (clause_of b s).body) τ ++ (pos s.clause ∷ s.vals)
  unfolding walk_back last_writers back head body
  back-wrote r e = rw (newest r, eq-eqb (clause_of b s).head.rel r e) (wrote (clause_of b s).body)

  pub back-other : (r : ℕ) → (clause_of b s).head.rel ≢ r → walk_back b (some r) (τ ++ (s ∷ [])) ≡ walk_back b (some r) τ
  unfolding walk_back last_writers back head
  back-other r n = rw (newest r, ne_eqb (clause_of b s).head.rel r n)

module _ (b : Book) (C : Control) (l : List ℤ) where
  -- the place where step j of the trace starts
  abbrev pub trace_start : ℕ → ℕ
  trace_start j = start b (size b C) l (size b C) j

  -- of the walk back from what is wanted, the numbers of the steps before step j
  unfoldable pub coming : Option ℕ → ℕ → List ℤ
  coming w j = walk_back b w (take j (trace_steps b C l))

  pub coming-none : (j : ℕ) → coming none j ≡ []
  unfolding coming walk_back
  coming-none j = refl

  pub coming-first : (w : Option ℕ) → coming w 0 ≡ []
  unfolding coming walk_back last_writers back numbers
  coming-first none = refl
  coming-first (some r) = refl
