-- What document 01 says of a derivation check: the book's own refusal, or what the check of the list says of the book that the bytes hold.
use Rattle.std.specs.Prelude.{ℕ, List, ℤ}
use Rattle.reply.specs.Answer as reply
use Rattle.lists.specs.Derivation.{check_derivation}
use Rattle.book.specs.OnBook.{on_book}

-- an answer, done with n where it is accepted
unfoldable pub counted : reply.Answer → ℕ → reply.Answer
counted (reply.done m) n = reply.done n
counted (reply.refused m p) n = reply.refused m p

-- of the book's bytes s, the list l, and the goal: relation r with the values vals
unfoldable pub answer : List ℕ → List ℤ → ℕ → List ℤ → reply.Answer
answer s l r vals = on_book s reply.refused (λ b. check_derivation b r vals l)
