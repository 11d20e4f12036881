-- What document 01 says of a trace check: the book's own refusal, or what the check of the list says of the book that the bytes hold.
use Rattle.std.specs.Prelude.{ℕ, List, ℤ}
use Rattle.meaning.specs.State.{flags}
use Rattle.reply.specs.Answer as reply
use Rattle.lists.specs.Trace.{check_trace}
use Rattle.book.specs.OnBook.{on_book}

-- of the book's bytes s, the list l, and the goal: relation r with the values vals
unfoldable pub answer : List ℕ → List ℤ → ℕ → List ℤ → reply.Answer
answer s l r vals = on_book s reply.refused (λ b. check_trace b flags r vals l)
