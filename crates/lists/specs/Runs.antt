-- What a walk that judges accepts: a list is accepted just where it is the writing of steps that may follow each other and end as asked.
use Rattle.std.specs.Prelude.{◌≡◌, ◌↔◌, take, ℤ, pos}
use Rattle.std.proofs.Math.Path.{refl}
use Rattle.std.proofs.Common.{ap, not-suc-le-zero, arith, length-take-le, take_at}
use Rattle.std.proofs.Math.Option.{Option}
use mathlib.Core.List.{List, [], ◌∷◌, ◌++◌, map}
use Prim.Native.Nat.{ℕ, zero, suc, ◌+◌, ◌≤◌}
use Rattle.std.proofs.Math.ListN.{length, drop, length-append, length-drop, take-append-drop}
use Rattle.std.proofs.Math.Seq.{drop_at}
use Rattle.meaning.specs.Book.{Book, Fact, Step, Instance, body, clause_of}
use Rattle.reply.specs.Answer.{Answer, ok}
use Rattle.lists.specs.Instance.{clause_number, clause_at, step_at}
use Rattle.lists.specs.Walker.{Walker, walk}
use Rattle.lists.specs.Trace.{sum}
use Rattle.lists.specs.Convert.{steps_walk}
use Rattle.lists.specs.Laws.{step-at, after-step}
use Rattle.lists.specs.Walked.{clause-number}

-- a good step at the front of a list: an instance that stands there in full, its body met, and in the gap after it the numbers shown
pub record Judged (b : Book) (gap k : ℕ) (l : List ℤ) (Met : Option Fact → Type 0) (shown : Step → List ℤ) : Type 0 where
  pub one : Instance b (step_at b k l)
  pub long : (clause_at b k).vars + gap ≤ length l
  pub met : Met (body b (step_at b k l))
  pub next : take gap (drop (clause_at b k).vars l) ≡ shown (step_at b k l)

module _ (b : Book) (W : Walker Answer) where
  -- what the answers of a walk say: when a body is met, when the end is as asked, and which numbers stand in a gap, by what is remembered after it
  pub record Sense : Type 1 where
    pub Met : Option Fact → W.Memory → Type 0
    pub Done : W.Memory → Type 0
    pub shown : W.Memory → List ℤ
    pub step-says : (k : ℕ) (l : List ℤ) (i : ℕ) (o : W.Memory) (a : Answer)
        → (W.step k l i o a ≡ ok) ↔ (Judged b W.gap k l (λ p. Met p o) (λ s. shown (W.next s o)) × (a ≡ ok))
    pub end-says : (i : ℕ) (o : W.Memory) → (W.ended i o ≡ ok) ↔ Done o

  -- steps as a list of numbers
  abbrev pub written : Sense → W.Memory → List Step → List ℤ
  written S o [] = []
  written S o (s ∷ d) = pos s.clause ∷ (s.vals ++ (S.shown (W.next s o) ++ written S (W.next s o) d))

  -- they may follow each other, and the end is as asked
  abbrev pub Runs : Sense → W.Memory → List Step → Type 0
  Runs S o [] = S.Done o
  Runs S o (s ∷ d) = Instance b s × S.Met (body b s) o × (length (S.shown (W.next s o)) ≡ W.gap) × Runs S (W.next s o) d

-- a step's numbers, with a gap after them
abbrev pub step_length : Book → ℕ → Step → ℕ
step_length b gap s = 1 + (clause_of b s).vars + gap

module _ (b : Book) (W : Walker Answer) (S : Sense b W) where
  pub written-length : (o : W.Memory) (d : List Step) → Runs b W S o d → length (written b W S o d) ≡ sum (map (step_length b W.gap) d)
  unfolding sum
  written-length o [] c = refl
  written-length o (s ∷ d) c = simp length-append (omega (arith, c.0.count, c.2, written-length (W.next s o) d c.3))

  -- a list tells the steps that it was made of
  pub written-told : (m i : ℕ) (o : W.Memory) (d : List Step) → length (written b W S o d) ≤ m → Runs b W S o d → walk b (steps_walk b W.gap) m i tt (written b W S o d) ≡ d
  unfolding walk clause_number
  written-told zero i o [] h c = refl
  written-told zero i o (s ∷ d) h c = absurd (not-suc-le-zero h)
  written-told (suc m) i o [] h c = refl
  written-told (suc m) i o (s ∷ d) h c =
      let x = S.shown (W.next s o) in
      let rest = written b W S (W.next s o) d in
      rw (step-at b s (x ++ rest) c.0, after-step b s (x ++ rest) c.0, drop_at x rest W.gap c.2)
      (ap (λ (e : List Step). s ∷ e) (written-told m _ (W.next s o) d (omega (arith, length-append s.vals (x ++ rest), length-append x rest)) c.3))

  -- only such lists are accepted
  pub accepts-only : (m i : ℕ) (o : W.Memory) (l : List ℤ) → length l ≤ m → walk b W m i o l ≡ ok → (d : List Step) × (written b W S o d ≡ l) × Runs b W S o d
  unfolding walk
  accepts-only zero i o [] h e = ([], refl, (S.end-says i o).0 e)
  accepts-only zero i o (x ∷ l) h e = absurd (not-suc-le-zero h)
  accepts-only (suc m) i o [] h e = ([], refl, (S.end-says i o).0 e)
  accepts-only (suc m) i o (x ∷ l) h e =
      let k = clause_number b x in
      let n = (clause_at b k).vars in
      let s = step_at b k l in
      let r = drop n l in
      let (j, more) = (S.step-says k l i o _).0 e in
      let z : W.gap ≤ length r = rw length-drop (omega (arith, j.long)) in
      let (d, p, c) = accepts-only m _ (W.next s o) (drop W.gap r) (simp length-drop (omega arith)) more in (
        s ∷ d,
        rw (p, ← j.next, take-append-drop W.gap r, take-append-drop n l, clause-number b x j.one.there),
        (j.one, j.met, rw (← j.next) (length-take-le W.gap r z), c),
      )

  -- and every one
  pub accepts-every : (m i : ℕ) (o : W.Memory) (d : List Step) → length (written b W S o d) ≤ m → Runs b W S o d → walk b W m i o (written b W S o d) ≡ ok
  unfolding walk clause_number
  accepts-every zero i o [] h c = (S.end-says i o).1 c
  accepts-every zero i o (s ∷ d) h c = absurd (not-suc-le-zero h)
  accepts-every (suc m) i o [] h c = (S.end-says i o).1 c
  accepts-every (suc m) i o (s ∷ d) h c =
      let v = (clause_of b s).vars in
      let x = S.shown (W.next s o) in
      let rest = written b W S (W.next s o) d in
      let here : step_at b s.clause (s.vals ++ (x ++ rest)) ≡ s = step-at b s (x ++ rest) c.0 in
      let after : drop v (s.vals ++ (x ++ rest)) ≡ x ++ rest = after-step b s (x ++ rest) c.0 in
      let parts : length (s.vals ++ (x ++ rest)) ≡ v + (W.gap + length rest) = simp length-append (omega (arith, c.0.count, c.2)) in
      (S.step-says s.clause (s.vals ++ (x ++ rest)) i o _).1 (
        record { one = rw here c.0; long = omega arith; met = rw here c.1; next = rw (here, after) (take_at x rest W.gap c.2) },
        rw (here, after, drop_at x rest W.gap c.2) (accepts-every m _ (W.next s o) d (omega arith) c.3),
      )
