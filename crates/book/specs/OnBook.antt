-- A refused book ends a call with its own refusal; with an accepted one the call goes on.
use Rattle.std.specs.Prelude.{ℕ, ◌≡◌, ◌↔◌, List, Ok, Err}
use Rattle.std.proofs.Math.Path.{refl, ap}
use Rattle.std.proofs.Common.{sym, ◌∙◌}
use Rattle.meaning.specs.Book.{Book}
use Rattle.reply.specs.declared.Refusal.{Refusal}
use Rattle.reply.specs.Answer as reply
use Rattle.reply.specs.Answer.{done, ok, says, told, Outcome}
use Rattle.reply.specs.Among.{refused-not}
use Rattle.reply.specs.Room.{Due, kept, Fair, kept-fair}
use Rattle.book.specs.declared.Header.{Header}
use Rattle.book.specs.Meaning.{book_in}
use Rattle.book.specs.Answer as books
use Rattle.book.specs.Answer.{Answer, Answers, accepted, refused, answer}
use Rattle.book.specs.Read.{Reading}

unfoldable pub after : {X : Type 0} → Answer → (ℕ → ℕ → X) → (Book → X) → X
after (accepted b) stop go = go b
after (refused n p) stop go = stop n p

-- of the bytes s: what a refusal n p makes, or what the book makes
unfoldable pub on_book : {X : Type 0} → List ℕ → (ℕ → ℕ → X) → (Book → X) → X
on_book s stop go = after (answer s) stop go

-- what the reader itself answers
abbrev pub reading : List ℕ → reply.Answer
reading s = on_book s reply.refused (λ b. ok)

-- a reading as a call's answer: a refused book's own refusal
unfoldable pub refused_by : Reading → Outcome
refused_by (Ok h) = Ok 0
refused_by (Err r) = Err r

module _ {X : Type 0} (s : List ℕ) (stop : ℕ → ℕ → X) (go : Book → X) where
  -- ---- the law for a refused book, and the one for an accepted book

  pub on-refused : (n p : ℕ) → answer s ≡ refused n p → on_book s stop go ≡ stop n p
  unfolding on_book after
  on-refused n p e = rw e

  pub on-accepted : (b : Book) → answer s ≡ accepted b → on_book s stop go ≡ go b
  unfolding on_book after
  on-accepted b e = rw e

  -- what holds of both holds
  pub on_both : (P : X → Type 0) → ((n p : ℕ) → answer s ≡ refused n p → P (stop n p)) → ((b : Book) → answer s ≡ accepted b → P (go b)) → P (on_book s stop go)
  unfolding on_book after
  on_both P f g = by (answer s) refl
    where
      by : (a : Answer) → answer s ≡ a → P (after a stop go)
      by (accepted b) e = g b e
      by (refused n p) e = f n p e

  -- ---- by the reading y that the code has

  module _ {y : Reading} (w : Answers s y) where
    pub by-refused : {g : Refusal} → y ≡ Err g → on_book s stop go ≡ stop g.number g.place
    unfolding books.told
    by-refused {g} e = on-refused g.number g.place (sym w.tells ∙ ap (books.told s) e)

    pub by-good : {h : Header} → y ≡ Ok h → on_book s stop go ≡ go (book_in s h)
    unfolding books.told
    by-good {h} e = on-accepted (book_in s h) (sym w.tells ∙ ap (books.told s) e)

-- a call that accepts has read a book, and accepts that
pub on-ok : (s : List ℕ) (f : Book → reply.Answer) → (on_book s reply.refused f ≡ ok) ↔ ((b : Book) × (answer s ≡ accepted b) × (f b ≡ ok))
on-ok s f = (
  on_both s reply.refused f (λ a. a ≡ ok → (b : Book) × (answer s ≡ accepted b) × (f b ≡ ok)) (λ n p q e. absurd (refused-not e)) (λ b q e. (b, q, e)),
  λ h. on-accepted s reply.refused f h.0 h.1 ∙ h.2,
)

-- and so one that writes
pub on-done : {A : Type 0} (s : List ℕ) (d : List A) (f : Book → Due A) {n : ℕ} → (on_book s (kept d) f).answer ≡ done n
    → (b : Book) × (answer s ≡ accepted b) × ((f b).answer ≡ done n)
on-done {A} s d f {n} =
    on_both s (kept d) f (λ (y : Due A). y.answer ≡ done n → (b : Book) × (answer s ≡ accepted b) × ((f b).answer ≡ done n)) (λ m p q e. absurd (refused-not e)) (λ b q e. (b, q, e))

-- the room of a call on a book
pub on-fair : {A : Type 0} (s : List ℕ) (d : List A) (f : Book → Due A) → ((b : Book) → Fair d (f b)) → Fair d (on_book s (kept d) f)
on-fair s d f w = on_both s (kept d) f (Fair d) (λ n p q. kept-fair d n p) (λ b q. w b)

-- ---- a reading as an answer

pub refused-own : {y : Reading} {g : Refusal} {x : Outcome} → x ≡ refused_by y → y ≡ Err g → x ≡ Err g
unfolding refused_by
refused-own p e = p ∙ rw e

pub refused-told : {y : Reading} {g : Refusal} {x : Outcome} → x ≡ refused_by y → y ≡ Err g → x ≡ told (reply.refused g.number g.place)
unfolding told
refused-told p e = refused-own p e

-- it is what the reader answers
pub reading-says : (s : List ℕ) {y : Reading} → Answers s y → says (refused_by y) ≡ reading s
unfolding refused_by says
reading-says s {y} w = go y refl
  where
    go : (z : Reading) → y ≡ z → says (refused_by y) ≡ reading s
    go (Ok h) e = rw e (sym (by-good s reply.refused (λ b. ok) w e))
    go (Err g) e = rw e (sym (by-refused s reply.refused (λ b. ok) w e))
