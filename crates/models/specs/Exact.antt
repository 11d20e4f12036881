-- The words of an exact model check: what bytes hold, what it means to accept and to break a model; and laws of what was read.
use Rattle.std.specs.Prelude.{◌≡◌, ◌⊎◌, ℕ, ◌<◌, ◌≤◌, Ok, Err}
use Rattle.std.proofs.Math.Path.{refl}
use Rattle.std.proofs.Common.{inl, inr}
use mathlib.Core.List.{List, [], ◌∷◌}
use Rattle.reply.specs.Answer.{refused}
use Rattle.meaning.specs.Constraint.{Constraint}
use Rattle.meaning.specs.Book.{Book, Step, Instance, head, body}
use Rattle.meaning.specs.Model.{All, Satisfies, Model}
use Rattle.reply.specs.declared.Refusal.{Refusal}
use Rattle.cursor.specs.declared.Cursor.{Cursor}
use Rattle.cursor.specs.Inverse.{pick-by}
use Rattle.book.specs.Answer.{answer, accepted}
use Rattle.book.specs.OnBook.{on-accepted}
use Rattle.models.specs.Read.{Part, rules, number_in, in_model, rule_then, parts_at, model_in}
use Rattle.models.specs.Walk.{Assignment, total, position}
use Rattle.models.specs.Answer.{Reply, plain, slots, examine, model_answer}
use Rattle.cursor.specs.Steps.{Read}
use Rattle.reply.specs.Then.{go_on, ◌>>=◌, no_err}

-- ---- reading

-- the bytes s hold the constraints m, one for each of these arities, and nothing else
pub record Holds (s ns : List ℕ) (m : List Constraint) : Type 0 where
  pub parts : List Part
  pub end : Cursor
  pub reads : model_in s ns ≡ Ok (parts, end)
  pub are : rules parts ≡ m

pub rule-went : (y : Read Constraint) (go : Constraint → Cursor → Read (List Part)) {ps : List Part} {e : Cursor} {Q : Type 0} → rule_then y go ≡ Ok (ps, e) →
    ((t : Constraint) (d : Cursor) → y ≡ Ok (t, d) → go t d ≡ Ok (ps, e) → Q) → Q
unfolding rule_then
rule-went (Ok (t, d)) go q k = k t d refl q
rule-went (Err r) go q k = absurd (no_err _ q)

-- a model's refusals are 21 and 22
abbrev Fine : Read (List Part) → Type 0
Fine (Ok (ps, c)) = Unit {0}
Fine (Err r) = (r.number ≡ 21) ⊎ (r.number ≡ 22)

fine-rule : (y : Read Constraint) (go : Constraint → Cursor → Read (List Part)) → ((t : Constraint) (d : Cursor) → Fine (go t d)) → Fine (rule_then y go)
unfolding rule_then in_model number_in
fine-rule (Ok (t, d)) go h = h t d
fine-rule (Err r) go h = pick-by (λ n. (n ≡ 21) ⊎ (n ≡ 22)) _ _ _ (λ t. inl refl) (λ t. inr refl)

fine-then : (y : Read (List Part)) (p : Part) → Fine y → Fine (y >>= λ (ps, e). Ok (p ∷ ps, e))
unfolding go_on
fine-then (Ok (ps, c)) p h = tt
fine-then (Err r) p h = h

parts-fine : (s ns : List ℕ) (c : Cursor) → Fine (parts_at s ns c)
unfolding parts_at
parts-fine s [] c = pick-by Fine _ _ _ (λ t. tt) (λ t. inr refl)
parts-fine s (n ∷ ns) c = fine-rule _ _ λ t d. fine-then (parts_at s ns d) (record { at = c.at; rule = t }) (parts-fine s ns d)

pub refused-read : (s ns : List ℕ) {r : Refusal} → model_in s ns ≡ Err r → (r.number ≡ 21) ⊎ (r.number ≡ 22)
unfolding model_in
refused-read s ns e = rw e at (parts-fine s ns (record { at = 0; left = 0 }))

-- ---- what breaks a model

module _ (b : Book) (m : List Constraint) where
  -- a broken instance: the constraint is true, the body satisfies its relation's, and the head does not satisfy its own
  pub record Broken (s : Step) : Type 0 where
    pub one : Instance b s
    pub body : All (Satisfies m) (body b s)
    pub head : ¬ Satisfies m (head b s)

-- ---- the answer

-- the bytes s hold a model of b, and there are few enough assignments
pub record Accepts (b : Book) (s : List ℕ) : Type 0 where
  pub model : List Constraint
  pub held : Holds s b.arities model
  pub is : Model b model
  pub few : total b ≤ 1000000

-- ---- refusal 25

-- the first broken instance of b for the model m: it is one, and no assignment at an earlier position is
pub record FirstBroken (b : Book) (m : List Constraint) (s : Step) : Type 0 where
  pub is : Broken b m s
  pub earlier : (t : Step) → Assignment b t → position b t < position b s → ¬ Broken b m t

-- a reply 25: place and count are its position, and clause and values are its own
abbrev pub broken_at : Book → Step → Reply
broken_at b s = record { answer = refused 25 (position b s); count = position b s; clause = s.clause; values = slots s.vals }

pub record Breaks (b : Book) (s : List ℕ) : Type 0 where
  pub model : List Constraint
  pub held : Holds s b.arities model
  pub step : Step
  pub first : FirstBroken b model step
  pub reply : examine b s ≡ broken_at b step

-- ---- which numbers there are

abbrev pub model_numbers : List ℕ
model_numbers = 21 ∷ 22 ∷ 23 ∷ 24 ∷ 25 ∷ []

-- ---- from the book's bytes

-- what is said of b and examine holds of every accepted book's bytes
pub answered : (book s : List ℕ) {b : Book} → answer book ≡ accepted b → model_answer book s ≡ examine b s
unfolding model_answer
answered book s {b} e = on-accepted book (λ n p. plain (refused n p) 0) (λ c. examine c s) b e
