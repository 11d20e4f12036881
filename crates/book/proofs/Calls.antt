-- The ways of a call that reads a book: the refused book's own refusal, or what is due of the book that was read.
use mathlib.Core.Path.{◌≡◌, refl, sym, ap, ◌∙◌}
use mathlib.Core.List.{List}
use Prim.Native.Nat.{ℕ}
use Rattle.meaning.specs.Book.{Book}
use Rattle.reply.specs.declared.Refusal.{Refusal}
use Rattle.reply.specs.Answer as reply
use Rattle.reply.specs.Answer.{told, Outcome}
use Rattle.reply.specs.Room.{Due, kept, Leaves, leaves}
use Rattle.book.specs.declared.Header.{Header}
use Rattle.book.specs.Read.{read}
use Rattle.book.specs.Meaning.{book_in}
use Rattle.book.specs.declared.held.Book as code
use Rattle.book.specs.Held.{meant}
use Rattle.book.specs.Answer.{answers}
use Rattle.book.specs.OnBook.{on_book, by-refused, by-good}
use Rattle.std.specs.Prelude.{Ok, Err}

-- what a book that was read means is what its bytes hold
pub means : {s : List ℕ} (c b : code.Book) → c ≡ b → b.bytes.now ≡ s → meant c ≡ book_in s b.header
means c b p q = rw (p, q)

-- without a room
module _ (s : List ℕ) (f : Book → reply.Answer) {x : Outcome} where
  pub book-stop : {g : Refusal} → read s ≡ Err g → x ≡ Err g → x ≡ told (on_book s reply.refused f)
  unfolding told
  book-stop p e = e ∙ ap told (sym (by-refused s reply.refused f (answers s (read s) refl) p))

  pub book-on : {h : Header} → read s ≡ Ok h → x ≡ told (f (book_in s h)) → x ≡ told (on_book s reply.refused f)
  book-on p e = e ∙ ap told (sym (by-good s reply.refused f (answers s (read s) refl) p))

-- with a room d
module _ {A : Type 0} (s : List ℕ) (f : Book → Due A) (d : List A) {x : Outcome} where
  pub room-stop : {g : Refusal} → read s ≡ Err g → x ≡ Err g → Leaves (on_book s (kept d) f) x d
  unfolding told
  room-stop p e = rw (by-refused s (kept d) f (answers s (read s) refl) p) (leaves e refl)

  pub room-on : {h : Header} {e : List A} → read s ≡ Ok h → Leaves (f (book_in s h)) x e → Leaves (on_book s (kept d) f) x e
  room-on p w = rw (by-good s (kept d) f (answers s (read s) refl) p) w
