-- What the printer's promise says: a room that holds the text, and one that does not.
use Rattle.std.specs.Prelude.{ℕ, ◌<◌, ◌≤◌, ◌≡◌, List, ◌++◌, length, drop, Ok, Err}
use Rattle.std.proofs.Common.{ap, ◌∙◌}
use Rattle.reply.specs.Answer.{ok, refuse, says-done, says-refused, Outcome}
use Rattle.reply.specs.Room.{Due, kept, written, Leaves, Fair, written-wrote}
use Rattle.reply.proofs.Room.{written-needs, written-fair}
use Rattle.meaning.specs.Book.{Book}
use Rattle.book.specs.Answer.{accepted, answer}
use Rattle.book.specs.OnBook.{on-accepted, on-fair}
use Rattle.script.specs.Text.{text}
use Rattle.text.specs.Reply.{print_due}

pub print-fair : (s d : List ℕ) → Fair d (print_due s d)
print-fair s d = on-fair s d _ (λ b. written-fair ok (text b) d)

module _ (s d : List ℕ) (x : Outcome) (e : List ℕ) (w : Leaves (print_due s d) x e) (b : Book) (held : answer s ≡ accepted b) where
  printed : print_due s d ≡ written ok (text b) d
  printed = on-accepted s (kept d) (λ c. written ok (text c) d) b held

  -- a room that holds the text has it in front, and the rest keeps its bytes
  pub text-written : length (text b) ≤ length d → (x ≡ Ok (length (text b))) × (e ≡ text b ++ drop (length (text b)) d)
  text-written h =
      let k = printed ∙ written-wrote (text b) d 0 h in
      ((says-done x (length (text b))).0 (w.tells ∙ ap (λ (y : Due ℕ). y.answer) k), w.room ∙ ap (λ (y : Due ℕ). y.room) k)

  -- a shorter one is left as it was
  pub text-short : length d < length (text b) → (x ≡ Err (refuse 9 (length (text b)))) × (e ≡ d)
  text-short h =
      let k = printed ∙ written-needs (text b) d 0 h in
      ((says-refused x 9 (length (text b))).0 (w.tells ∙ ap (λ (y : Due ℕ). y.answer) k), w.room ∙ ap (λ (y : Due ℕ). y.room) k)
