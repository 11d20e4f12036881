-- What a call leaves in a lent room beside its answer.
use Rattle.std.specs.Prelude.{ℕ, ◌≤◌, ◌≡◌, List, ◌++◌, drop}
use Rattle.std.proofs.Common.{arith, ap, ◌∙◌, length-append, length-drop}
use Rattle.std.proofs.Math.Path.{refl, sym}
use Rattle.std.proofs.Math.Bool.{true, false}
use Rattle.std.proofs.Math.ListN.{length}
use Rattle.std.proofs.Math.Seq.{drop-append_seam}
use Rattle.std.proofs.Math.Dec.{leb}
use borrow.Author.Tests.{le-leb}
use Rattle.reply.specs.Answer.{Answer, done, refused, says, told, says-told, says-one, Outcome}
use Rattle.reply.specs.Among.{refused-not}

-- what is due: the answer, and the room afterwards
pub record Due (A : Type 0) : Type 0 where
  pub answer : Answer
  pub room : List A

-- a refusal writes nothing
abbrev pub kept : {A : Type 0} → List A → ℕ → ℕ → Due A
kept d n p = record { answer = refused n p; room = d }

-- success writes the front of the room, and the rest keeps its numbers
abbrev pub wrote : {A : Type 0} → List A → List A → Due A
wrote t d = record { answer = done (length t); room = t ++ drop (length t) d }

-- t is written if the answer so far is no refusal and the room holds it (9)
unfoldable pub written : {A : Type 0} → Answer → List A → List A → Due A
written (refused n p) t d = kept d n p
written (done n) t d = elim (leb (length t) (length d)) [
  | true ↦ wrote t d
  | false ↦ kept d 9 (length t)
]

-- ---- the promise of a call with a room: x is its answer, and e the room that is left

pub record Leaves {A : Type 0} (y : Due A) (x : Outcome) (e : List A) : Type 0 where
  pub tells : says x ≡ y.answer
  pub room : e ≡ y.room

pub leaves : {A : Type 0} {y : Due A} {x : Outcome} {e : List A} → x ≡ told y.answer → e ≡ y.room → Leaves y x e
leaves {y = y} p q = record { tells = ap says p ∙ says-told y.answer; room = q }

-- one answer and one room keep it
pub leaves-one : {A : Type 0} {y : Due A} {x z : Outcome} {e f : List A} → Leaves y x e → Leaves y z f → (x ≡ z) × (e ≡ f)
leaves-one p q = (says-one (p.tells ∙ sym q.tells), p.room ∙ sym q.room)

-- ---- what is written

module _ {A : Type 0} (t d : List A) where
  pub written-wrote : (n : ℕ) → length t ≤ length d → written (done n) t d ≡ wrote t d
  unfolding written
  written-wrote n h = rw (le-leb (length t) (length d) h, written)

-- ---- what an answer does to the room d

-- it became e: only its first n numbers are written, and the rest are as before
abbrev pub Front : {A : Type 0} (n : ℕ) (d e : List A) → Type 0
Front n d e = (n ≤ length d) × (length e ≡ length d) × (drop n e ≡ drop n d)

-- a refusal leaves it as it was; success writes its front
pub record Fair {A : Type 0} (d : List A) (y : Due A) : Type 0 where
  pub refused-room : {n p : ℕ} → y.answer ≡ refused n p → y.room ≡ d
  pub done-room : {n : ℕ} → y.answer ≡ done n → Front n d y.room

pub kept-fair : {A : Type 0} (d : List A) (n p : ℕ) → Fair d (kept d n p)
kept-fair d n p = record { refused-room = λ e. refl; done-room = λ e. absurd (refused-not e) }

pub wrote-fair : {A : Type 0} (t d : List A) → length t ≤ length d → Fair d (wrote t d)
wrote-fair t d h = record {
  refused-room = λ e. absurd (refused-not (sym e));
  done-room = λ {n} e. let z : length t ≡ n = cc in rw (← z) (h, rw (length-append, length-drop) (omega arith), drop-append_seam t (drop (length t) d));
}

-- a room keeps its length
pub fair-length : {A : Type 0} {d : List A} (y : Due A) → Fair d y → length y.room ≡ length d
fair-length {d = d} y w = go y.answer refl
  where
    go : (a : Answer) → y.answer ≡ a → length y.room ≡ length d
    go (refused n p) e = ap length (w.refused-room e)
    go (done n) e = (w.done-room e).1
