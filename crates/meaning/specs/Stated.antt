-- The step as document 01 states it is the step of the system of flags.
use Rattle.std.specs.Prelude.{◌≡◌, refl, ◌↔◌, true, false, List, [], ◌∷◌, ◌<◌, length, get_or}
use Rattle.std.proofs.Common.{◌∙◌, length-set}
use Rattle.std.proofs.Math.Option.{Option, none, some}
use Rattle.std.proofs.Math.Decide.{ℕ_discrete}
use Rattle.std.specs.Float.Ieee.Bits.{is_true}
use Rattle.meaning.specs.Book.{Book, Fact, Step, Instance, head, body}
use Rattle.meaning.specs.Limits.{Limits}
use Rattle.meaning.specs.System.{Enabled, Move, Follows}
use Rattle.meaning.specs.State.{State, write, flags, Flagged, Met, StepsTo}
use Rattle.meaning.specs.Wf.{limits-wf, head-there}
use Rattle.meaning.specs.Rows.{set-replaces, replaced-set}

met-enabled : (b : Book) (o : Option Fact) (σ : State flags) → Met o σ ↔ Enabled (Flagged b) o σ
met-enabled b none σ = (λ h. tt, λ h. tt)
met-enabled b (some f) σ = (λ h. record { held = rw h.0 tt; row = h.1 }, λ h. (is_true (get_or σ.ctl f.rel false) h.held, h.row))

-- a flag and a row for each relation
module _ {b : Book} (l : Limits b) (s : Step) (σ : State flags) (c : length σ.ctl ≡ length b.arities) (r : length σ.rows ≡ length b.arities) where
  in-ctl : Instance b s → (head b s).rel < length σ.ctl
  in-ctl i = rw c (head-there (limits-wf l) s i)

  in_rows : Instance b s → (head b s).rel < length σ.rows
  in_rows i = rw r (head-there (limits-wf l) s i)

  pub step-is-stated : (σ' : State flags) → StepsTo b s σ σ' ↔ (Instance b s × Enabled (Flagged b) (body b s) σ × (σ' ≡ write flags (head b s) σ))
  step-is-stated σ' = (
    λ h. (
      h.one,
      (met-enabled b (body b s) σ).0 h.met,
      λ i. record {
        ctl = replaced-set false σ.ctl (head b s).rel true (in-ctl h.one) σ'.ctl h.flagged i;
        rows = replaced-set [] σ.rows (head b s).rel (head b s).vals (in_rows h.one) σ'.rows h.placed i;
      },
    ),
    λ h. rw h.2 (record {
      one = h.0;
      met = (met-enabled b (body b s) σ).1 h.1;
      flagged = set-replaces false σ.ctl (head b s).rel true (in-ctl h.0);
      placed = set-replaces [] σ.rows (head b s).rel (head b s).vals (in_rows h.0);
    }),
  )

  -- a clause without body may step in every state
  pub bodiless-anywhere : Instance b s → body b s ≡ none → (σ' : State flags) × StepsTo b s σ σ'
  bodiless-anywhere i e = (write flags (head b s) σ, (step-is-stated (write flags (head b s) σ)).1 (i, rw e tt, refl))

-- a step keeps its body's flag
pub body_kept : {b : Book} {s : Step} {σ σ' : State flags} {f : Fact} → StepsTo b s σ σ' → body b s ≡ some f → get_or σ'.ctl f.rel false ≡ true
body_kept {b} {s} {σ} {σ'} {f} h e = go (ℕ_discrete f.rel (head b s).rel)
  where
    go : Dec (f.rel ≡ (head b s).rel) → get_or σ'.ctl f.rel false ≡ true
    go (yes p) = rw p h.flagged.there
    go (no n) = h.flagged.rest f.rel n ∙ (rw e at h.met).0

-- ---- traces

abbrev pub StepsAlong : (b : Book) → State flags → List (Move b (Flagged b)) → Type 0
StepsAlong b σ [] = Unit {0}
StepsAlong b σ (m ∷ ms) = StepsTo b m.step σ m.next × StepsAlong b m.next ms

-- the traces of the system of flags are just those of the stated steps
pub trace-is-stated : {b : Book} → Limits b → (σ : State flags) → length σ.ctl ≡ length b.arities → length σ.rows ≡ length b.arities
    → (ms : List (Move b (Flagged b))) → StepsAlong b σ ms ↔ Follows b (Flagged b) σ ms
trace-is-stated l σ c r [] = (λ h. tt, λ h. tt)
trace-is-stated l σ c r (m ∷ ms) =
    let one = step-is-stated l m.step σ c r m.next in (
      λ h. let (i, e, p) = one.0 h.0 in (i, e, p, (trace-is-stated l m.next (rw (p, length-set) c) (rw (p, length-set) r) ms).0 h.1),
      λ h. (one.1 (h.0, h.1, h.2), (trace-is-stated l m.next (rw (h.2, length-set) c) (rw (h.2, length-set) r) ms).1 h.3),
    )
