-- The check accepts exactly the derivations of the goal in the book that the bytes hold.
use Rattle.std.specs.Prelude.{ℕ, ◌≡◌, ◌↔◌, List, ℤ, Ok}
use Rattle.std.proofs.Common.{sym, ◌∙◌}
use Rattle.meaning.specs.Book.{Book}
use Rattle.reply.specs.Answer.{says-done, Answers, Outcome}
use Rattle.lists.specs.Derivation.{check_derivation}
use Rattle.lists.specs.Exact.{Derivation, check_derivation-exact}
use Rattle.book.specs.Answer as books
use Rattle.book.specs.OnBook.{on-ok}
use Rattle.derivation.specs.Answer.{answer}

-- the bytes s hold a book, the goal fits it, and the list l is the numbers of a derivation of the goal in it
pub record Derived (s : List ℕ) (l : List ℤ) (r : ℕ) (vals : List ℤ) : Type 0 where
  pub book : Book
  pub held : books.answer s ≡ books.accepted book
  pub derivation : Derivation book r vals l

-- of the reply x that keeps the check's promise
pub exact : (s : List ℕ) (l : List ℤ) (r : ℕ) (vals : List ℤ) (x : Outcome) → Answers (answer s l r vals) x → (x ≡ Ok 0) ↔ Derived s l r vals
unfolding answer
exact s l r vals x p =
    let said = says-done x 0 in
    let whole = on-ok s (λ b. check_derivation b r vals l) in (
      λ e. let (b, q, k) = whole.0 (sym p.tells ∙ said.1 e) in record { book = b; held = q; derivation = (check_derivation-exact b r vals l).0 k },
      λ d. said.0 (p.tells ∙ whole.1 (d.book, d.held, (check_derivation-exact d.book r vals l).1 d.derivation)),
    )
