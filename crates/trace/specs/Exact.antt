-- The check accepts exactly the traces that reach the goal in the book that the bytes hold.
use Rattle.std.specs.Prelude.{ℕ, ◌≡◌, ◌↔◌, List, ℤ, Ok}
use Rattle.std.proofs.Common.{sym, ◌∙◌}
use Rattle.meaning.specs.Book.{Book}
use Rattle.meaning.specs.State.{flags}
use Rattle.meaning.specs.Laws.{flags-laws}
use Rattle.reply.specs.Answer.{ok, says-done, Answers, Outcome}
use Rattle.lists.specs.Trace.{check_trace}
use Rattle.lists.specs.Walk.{Trace, check_trace-exact}
use Rattle.book.specs.Answer as books
use Rattle.encode.specs.Stands.{Bytes}
use Rattle.encode.specs.Exact.{accepted-is-written}
use Rattle.book.specs.OnBook.{on-ok}
use Rattle.trace.specs.Answer.{answer}

-- the bytes s hold a book, the goal fits it, and the list l is the numbers of a trace that reaches the goal in it
pub record Reached (s : List ℕ) (l : List ℤ) (r : ℕ) (vals : List ℤ) : Type 0 where
  pub book : Book
  pub held : books.answer s ≡ books.accepted book
  pub trace : Trace book flags r vals l

module _ (s : List ℕ) (bytes : Bytes s) (l : List ℤ) (r : ℕ) (vals : List ℤ) where
  of-book : (b : Book) → books.answer s ≡ books.accepted b → (check_trace b flags r vals l ≡ ok) ↔ Trace b flags r vals l
  of-book b q = check_trace-exact b flags flags-laws (accepted-is-written s bytes b q).1 r vals l

  -- of the reply x that keeps the check's promise
  pub exact : (x : Outcome) → Answers (answer s l r vals) x → (x ≡ Ok 0) ↔ Reached s l r vals
  unfolding answer
  exact x p =
      let said = says-done x 0 in
      let whole = on-ok s (λ b. check_trace b flags r vals l) in (
        λ e. let (b, q, k) = whole.0 (sym p.tells ∙ said.1 e) in record { book = b; held = q; trace = (of-book b q).0 k },
        λ d. said.0 (p.tells ∙ whole.1 (d.book, d.held, (of-book d.book d.held).1 d.trace)),
      )
