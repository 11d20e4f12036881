-- The model check's reply, in terms of the book that the bytes hold.
use Rattle.std.specs.Prelude.{ℕ, ◌≡◌, refl, ◌↔◌, List}
use Rattle.std.proofs.Common.{arith, sym, ap, ◌∙◌}
use Rattle.reply.specs.Answer.{refused, ok}
use Rattle.meaning.specs.Constraint.{Constraint}
use Rattle.meaning.specs.Book.{Book, Step}
use Rattle.encode.specs.Encode.{spell, constraint_bytes}
use Rattle.encode.specs.Stands.{Bytes}
use Rattle.book.specs.Answer as books
use Rattle.book.specs.OnBook.{on-refused}
use Rattle.book.specs.Numbers.{refused-number}
use Rattle.models.specs.Walk.{total}
use Rattle.models.specs.Answer.{number_of, plain, examine, model_answer}
use Rattle.models.specs.Written.{Fit, holds-exactly}
use Rattle.models.specs.Exact.{answered, FirstBroken, broken_at}
use Rattle.models.proofs.Exact.{accepted-count, broken-exactly}
use Rattle.models.specs.Main.{Accepted}
use Rattle.models.proofs.Main.{accepted}
use Rattle.model.specs.declared.Reply as code
use Rattle.model.specs.Reply.{told, Replies}

module _ (s m : List ℕ) (x : code.Reply) (w : Replies s m x) where
  -- a refused book ends the call with its own refusal; nothing was examined
  pub book-refused : (n p : ℕ) → books.answer s ≡ books.refused n p → told x ≡ plain (refused n p) 0
  unfolding model_answer
  book-refused n p q = w.tells ∙ on-refused s (λ n p. plain (refused n p) 0) (λ b. examine b m) n p q

  module _ (b : Book) (held : books.answer s ≡ books.accepted b) where
    -- the reply is what is said of that book
    pub examined : told x ≡ examine b m
    examined = w.tells ∙ answered s m held

    -- accepted: all assignments were examined
    pub all-counted : number_of (told x) ≡ 0 → told x ≡ plain ok (total b)
    all-counted z = examined ∙ accepted-count b m (sym (ap number_of examined) ∙ z)

    -- 25: the bytes are a model written out, and the reply is its first broken instance at its position
    pub first-named : Bytes m → number_of (told x) ≡ 25 → (ts : List Constraint) × (t : Step) × Fit b.arities ts × (m ≡ spell constraint_bytes ts) × FirstBroken b ts t × (told x ≡ broken_at b t)
    first-named y z =
        let k = broken-exactly b m (sym (ap number_of examined) ∙ z) in
        let w = (holds-exactly y b.arities k.model).0 k.held in
        (k.model, k.step, w.0, w.1, k.first, examined ∙ k.reply)

  -- accepted exactly when the bytes hold a book and a model of it, over at most a million assignments
  pub exact : Bytes m → (number_of (told x) ≡ 0) ↔ ((b : Book) × (books.answer s ≡ books.accepted b) × Accepted b m)
  exact y = (
    λ z. go (books.answer s) refl z,
    λ h. ap number_of (examined h.0 h.1) ∙ (accepted h.0 y).1 h.2,
  )
    where
      go : (a : books.Answer) → books.answer s ≡ a → number_of (told x) ≡ 0 → (b : Book) × (books.answer s ≡ books.accepted b) × Accepted b m
      go (books.accepted b) q z = (b, q, (accepted b y).0 (sym (ap number_of (examined b q)) ∙ z))
      go (books.refused n p) q z =
          let k : n ≡ 0 = sym (ap number_of (book-refused n p q)) ∙ z in
          absurd (let u : ⊥ = omega (arith, (refused-number s n p q).0) in u)
