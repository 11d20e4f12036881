-- The theorems, of every book within the limits: what it derives its systems reach, the other way too, and what a model rules out.
use Rattle.std.specs.Prelude.{◌≡◌, refl, ◌↔◌, List, [], ◌∷◌, ◌≤◌, length}
use Rattle.std.proofs.Common.{ap, ◌∙◌}
use Rattle.std.proofs.Math.Option.{Option, none, some}
use Rattle.std.proofs.lemmas.List.{length-map}
use Rattle.meaning.specs.Constraint.{Constraint}
use Rattle.meaning.specs.Book.{Book, Fact, Step, place_window, head, query}
use Rattle.meaning.specs.Limits.{Limits}
use Rattle.meaning.specs.Derivation.{Chain, last_head, Derives, Derivable}
use Rattle.meaning.specs.System.{System, Move, Follows, final, Reaches, Reachable, moves, steps, last_writers}
use Rattle.meaning.specs.State.{Control, State, Shaped, Initial, with_places, flags, Flagged, first}
use Rattle.meaning.specs.Model.{All, Excludes, Model}
use Rattle.meaning.specs.Wf.{limits-wf, head-full, head-in-window}
use Rattle.meaning.specs.Rows.{shaped-set, low-shaped}
use Rattle.meaning.specs.Laws.{Laws, ControlLaws, Sized, laws, flags-laws}
use Rattle.meaning.specs.Conversions.{steps-moves, forth, writers-length, writers-derivation, writers-trace, fits-final}

-- a derivation made a trace and made a derivation again is the same derivation
pub over-and-back : {b : Book} (S : System) (σ : S.State) {d : List Step} {f : Fact} → Derives b d f → last_writers b f.rel (steps b S (moves b S σ d)) ≡ d
over-and-back {b} S σ {d} {f} h = ap (last_writers b f.rel) (steps-moves b S σ d) ∙ writers-derivation b d f h

-- ---- models and derivations

module _ {b : Book} {P : Fact → Type 0} (x : Excludes b P) where
  excludes-chain : (o : Option Fact) (d : List Step) → Chain b o d → All P o → All P (last_head b o d)
  excludes-chain o [] c a = a
  excludes-chain o (s ∷ d) c a = excludes-chain (some (head b s)) d c.2 (x.closed s c.0 (rw c.1 a))

  -- all that is derived satisfies P
  pub derived-satisfies : {d : List Step} {f : Fact} → Derives b d f → P f
  derived-satisfies {d} h = rw h.last at (excludes-chain none d h.chain tt)

  pub excludes-derivation : ¬ Derivable b (query b)
  excludes-derivation h = x.denies (derived-satisfies h.1)

pub model-derivation : {b : Book} {m : List Constraint} → Model b m → ¬ Derivable b (query b)
model-derivation m = excludes-derivation m.excludes

-- ---- in every system that has the laws

module _ {b : Book} (l : Limits b) (S : System) (L : Laws (length b.arities) S) where
  pub derivation-to-trace : {σ : S.State} {d : List Step} {f : Fact} → S.Init σ → Derives b d f → Reaches b S σ (moves b S σ d) f
  derivation-to-trace {σ} {d} i h =
      let (t, e) = forth b S L (limits-wf l) σ none d (L.fits-init σ i) (L.init-fresh σ i) h.chain in
      record { init = i; follows = t; holds = rw h.last at e }

  -- the last writers derive what the trace reaches, in no more steps
  pub trace-to-derivation : {σ : S.State} {ms : List (Move b S)} {f : Fact} → Reaches b S σ ms f
      → Derives b (last_writers b f.rel (steps b S ms)) f × (length (last_writers b f.rel (steps b S ms)) ≤ length ms)
  trace-to-derivation {σ} {ms} {f} t = (
    writers-trace b S L (limits-wf l) σ ms f t.init t.follows t.holds,
    rw length-map at (writers-length b f.rel (steps b S ms)),
  )

  -- from any first state
  pub derivable-iff-reached-from : {σ : S.State} → S.Init σ → (f : Fact) → Derivable b f ↔ ((ms : List (Move b S)) × Reaches b S σ ms f)
  derivable-iff-reached-from {σ} i f = (λ h. (moves b S σ h.0, derivation-to-trace i h.1), λ h. (_, (trace-to-derivation h.1).0))

  pub excludes-trace : {P : Fact → Type 0} → Excludes b P → ¬ Reachable b S (query b)
  excludes-trace x h = excludes-derivation x (_, (trace-to-derivation h.2).0)

  pub model-trace : {m : List Constraint} → Model b m → ¬ Reachable b S (query b)
  model-trace m = excludes-trace m.excludes

-- ---- in every system of places: sizes, windows, and the first state of a converted trace

-- every state of a trace has a control that fits and a row for each relation
pub states-sized : {b : Book} (C : Control) (K : ControlLaws C) {σ : State C} (ms : List (Move b (with_places b C))) → Initial b C σ → Follows b (with_places b C) σ ms
    → Sized b C K (final b (with_places b C) σ ms)
unfolding laws
states-sized {b} C K {σ} ms i h = fits-final b (with_places b C) (laws b C K) σ ms ((laws b C K).fits-init σ i) h

module _ {b : Book} (l : Limits b) (C : Control) where
  pub first-initial : Initial b C (first b C)
  first-initial = record { started = refl; shaped = low-shaped (place_window b) (limits-wf l).windows b.arities }

  shaped-final : (σ : State C) (ms : List (Move b (with_places b C))) → Shaped (place_window b) b.arities σ.rows → Follows b (with_places b C) σ ms
      → Shaped (place_window b) b.arities (final b (with_places b C) σ ms).rows
  shaped-final σ [] p h = p
  shaped-final σ (m ∷ ms) p h =
      let w = limits-wf l in
      let s = m.step in
      let q = shaped-set (place_window b) b.arities σ.rows p (head b s).rel (head b s).vals (head-full w s h.0) (head-in-window w s h.0) in
      shaped-final m.next ms (rw h.2 q) h.3

  -- every state of a trace has its places in their windows
  pub states-in-window : {σ : State C} (ms : List (Move b (with_places b C))) → Initial b C σ → Follows b (with_places b C) σ ms
      → Shaped (place_window b) b.arities (final b (with_places b C) σ ms).rows
  states-in-window {σ} ms i h = shaped-final σ ms i.shaped h

module _ {b : Book} (l : Limits b) (C : Control) (K : ControlLaws C) where
  pub derivation-to-first-trace : {d : List Step} {f : Fact} → Derives b d f → Reaches b (with_places b C) (first b C) (moves b (with_places b C) (first b C) d) f
  derivation-to-first-trace h = derivation-to-trace l (with_places b C) (laws b C K) (first-initial l C) h

  pub derivable-iff-reached : (f : Fact) → Derivable b f ↔ Reachable b (with_places b C) f
  derivable-iff-reached f = (λ h. (first b C, _, derivation-to-first-trace h.1), λ h. (_, (trace-to-derivation l (with_places b C) (laws b C K) h.2).0))

-- ---- in document 01's system

module _ {b : Book} (l : Limits b) where
  pub flags-derivation-to-trace : {d : List Step} {f : Fact} → Derives b d f → Reaches b (Flagged b) (first b flags) (moves b (Flagged b) (first b flags) d) f
  flags-derivation-to-trace = derivation-to-first-trace l flags flags-laws

  pub flags-trace-to-derivation : {σ : State flags} {ms : List (Move b (Flagged b))} {f : Fact} → Reaches b (Flagged b) σ ms f
      → Derives b (last_writers b f.rel (steps b (Flagged b) ms)) f × (length (last_writers b f.rel (steps b (Flagged b) ms)) ≤ length ms)
  flags-trace-to-derivation = trace-to-derivation l (Flagged b) (laws b flags flags-laws)

  pub flags-derivable-iff-reached : (f : Fact) → Derivable b f ↔ Reachable b (Flagged b) f
  flags-derivable-iff-reached = derivable-iff-reached l flags flags-laws

  pub flags-model-trace : {m : List Constraint} → Model b m → ¬ Reachable b (Flagged b) (query b)
  flags-model-trace = model-trace l (Flagged b) (laws b flags flags-laws)
