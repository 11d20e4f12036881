-- When 21 to 25 are due, and that all but 25 leave clause and values 0, and the count where nothing was examined.
use Rattle.std.specs.Prelude.{◌≡◌, true, false, List, [], ◌∷◌, ℕ, zero, suc, ◌+◌, ◌<◌, ◌≤◌, length, get_or, take, Ok, Err}
use Rattle.std.proofs.Math.Path.{refl, ap}
use Rattle.std.proofs.Common.{sym, ◌∙◌, not-suc-le-zero, length-append}
use native.Mathlib.Omega.{arith}
use Rattle.std.specs.Float.Ieee.Bits.{is_true}
use Rattle.reply.specs.Answer.{refused}
use Rattle.meaning.specs.Constraint.{Constraint, truth, holds}
use Rattle.meaning.specs.Book.{Book, Step, query}
use Rattle.meaning.specs.Model.{Satisfies}
use Rattle.book.specs.OnBook.{on_both}
use Rattle.encode.specs.Encode.{spell, constraint_bytes}
use Rattle.encode.specs.Stands.{stands_self}
use Rattle.models.specs.Read.{Part, rules, model_in}
use Rattle.models.specs.Walk.{walk, total, Finding, clean, broken, find}
use Rattle.models.specs.Answer.{Reply, number_of, plain, outcome, no_part, weighed, judged, examine, model_answer}
use Rattle.models.specs.Exact.{Broken}
use Rattle.models.specs.Written.{Fit, placed, placed-rules, parts-written}
use Rattle.models.proofs.Found.{find-clean, walk-clean, walk-total}
use Rattle.models.proofs.Exact.{instance-assignment, breaks-broken, weighed-by}
-- what any reply but 25 leaves 0, and when 21 and 22 are due
pub use Rattle.models.specs.Due.{Plain, unread}
use Rattle.cursor.specs.Steps.{Read}

never : true ≡ false → ⊥
never e = let z : ◌≡◌ {A = ℕ} 0 1 = cc in omega arith

-- ---- any reply but 25

refused-plain : (n p : ℕ) → Plain (plain (refused n p) 0)
refused-plain n p = record { zeros = λ h. refl; uncounted = λ h k. refl }

outcome-plain : (f : Finding) → Plain (outcome f)
unfolding outcome
outcome-plain (clean n) = record { zeros = λ h. refl; uncounted = λ h k. absurd (h refl) }
outcome-plain (broken n s) = record { zeros = λ h. absurd (h refl); uncounted = λ h k. absurd (k refl) }

judged-plain : (b : Book) (y : Read (List Part)) → Plain (judged b y)
unfolding judged
judged-plain b (Ok (ps, c)) = weighed-by b ps Plain (λ t. refused-plain 23 _) (λ t u. refused-plain 24 0) (λ t u. outcome-plain (find b (rules ps) 0 (walk b)))
judged-plain b (Err r) = refused-plain r.number r.place

pub model-plain : (book s : List ℕ) → Plain (model_answer book s)
unfolding model_answer examine
model-plain book s =
    on_both book (λ n p. plain (refused n p) 0) (λ b. examine b s) Plain (λ n p q. refused-plain n p) (λ b q. judged-plain b (model_in s b.arities))

-- ---- a model written out

-- where constraint k starts
placed_at : (p : ℕ) (ts : List Constraint) (k : ℕ) → k < length ts → (get_or (placed p ts) k no_part).at ≡ p + length (spell constraint_bytes (take k ts))
unfolding placed spell
placed_at p [] k h = absurd (not-suc-le-zero h)
placed_at p (t ∷ ts) zero h = let z : p ≡ p + 0 = omega arith in z
placed_at p (t ∷ ts) (suc k) h =
    let e = placed_at (p + length (constraint_bytes t)) ts k (omega arith) in
    omega (arith, e, length-append (constraint_bytes t) (spell constraint_bytes (take k ts)))

fit_length : (ns : List ℕ) (ts : List Constraint) → Fit ns ts → length ts ≡ length ns
fit_length [] [] f = refl
fit_length [] (t ∷ ts) f = absurd f
fit_length (n ∷ ns) [] f = absurd f
fit_length (n ∷ ns) (t ∷ ts) f = ap suc (fit_length ns ts f.1)

module _ (b : Book) (there : b.query < length b.arities) (ts : List Constraint) (fit : Fit b.arities ts) where
  abbrev m : List ℕ
  m = spell constraint_bytes ts

  examined : examine b m ≡ weighed b (placed 0 ts)
  unfolding examine judged model_in
  examined = let (e, q) = parts-written m b.arities ts (record { at = 0; left = 0 }) fit (stands_self m) (omega arith) in rw q

  -- what is due is due of `ts`
  by : (P : Reply → Type 0)
      → (holds [] (get_or ts b.query truth) ≡ true → P (plain (refused 23 (length (spell constraint_bytes (take b.query ts)))) 0))
      → (holds [] (get_or ts b.query truth) ≡ false → 1000000 < total b → P (plain (refused 24 0) 0))
      → (holds [] (get_or ts b.query truth) ≡ false → total b ≤ 1000000 → P (outcome (find b ts 0 (walk b))))
      → P (examine b m)
  by P x y z =
      let at : (get_or (placed 0 ts) b.query no_part).at ≡ length (spell constraint_bytes (take b.query ts)) = let e = placed_at 0 ts b.query (rw (fit_length b.arities ts fit) there) in omega (arith, e) in
      let all = placed-rules 0 ts in
      rw examined (weighed-by b (placed 0 ts) P (λ t. rw at (x (rw all at t))) (λ t. y (rw all at t)) (λ t u. rw all (z (rw all at t) u)))

  is-so : Satisfies ts (query b) → holds [] (get_or ts b.query truth) ≡ true
  is-so h = is_true _ h.true_of

  not-true : ¬ Satisfies ts (query b) → ¬ (holds [] (get_or ts b.query truth) ≡ true)
  not-true h e = h (record { true_of = rw e tt })

  -- 23: the query's constraint is true
  pub true-query : Satisfies ts (query b) → examine b m ≡ plain (refused 23 (length (spell constraint_bytes (take b.query ts)))) 0
  true-query h = by (λ y. y ≡ plain (refused 23 (length (spell constraint_bytes (take b.query ts)))) 0)
      (λ t. refl) (λ t u. absurd (never (sym (is-so h) ∙ t))) (λ t u. absurd (never (sym (is-so h) ∙ t)))

  module _ (denied : ¬ Satisfies ts (query b)) where
    -- 24: too many assignments
    pub too_many : 1000000 < total b → examine b m ≡ plain (refused 24 0) 0
    too_many k = by (λ y. y ≡ plain (refused 24 0) 0) (λ t. absurd (not-true denied t)) (λ t u. refl) (λ t u. absurd (let z : ⊥ = omega arith in z))

    -- 25: some instance is broken
    pub some-broken : total b ≤ 1000000 → (t : Step) → Broken b ts t → number_of (examine b m) ≡ 25
    unfolding outcome
    some-broken k t w = by (λ y. number_of y ≡ 25) (λ h. absurd (not-true denied h)) (λ h u. absurd (let z : ⊥ = omega arith in z)) (λ h u. go (find b ts 0 (walk b)) refl)
      where
        go : (f : Finding) → find b ts 0 (walk b) ≡ f → number_of (outcome f) ≡ 25
        go (clean n) e =
            let z : n ≡ total b = omega (arith, (find-clean b ts 0 (walk b) n e).0, walk-total b) in
            let a = instance-assignment b ts t w.one in
            absurd (never (sym ((breaks-broken b ts t a).1 w) ∙ (walk-clean b ts).0 (e ∙ ap clean z) t a))
        go (broken n s) e = refl
