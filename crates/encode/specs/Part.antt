-- The part of a book that is handed out for a clause's constraint is the writing of that constraint.
use Rattle.std.specs.Prelude.{ℕ, ◌<◌, ◌≡◌, List, length, get_or}
use Rattle.std.proofs.Common.{zero-lt-suc, arith}
use Rattle.meaning.specs.Constraint.{Constraint, truth, at_most, equal, not, and, or, remainder}
use Rattle.meaning.specs.Book.{Book, none_such}
use Rattle.book.specs.Read.{constraint_of}
use Rattle.book.specs.Answer.{answer, accepted}
use Rattle.book.specs.Accepted.{headed}
use Rattle.encode.specs.Encode.{constraint_bytes}
use Rattle.encode.specs.Stands.{Bytes}
use Rattle.encode.specs.Written.{constraint-written}

pub part-written : (s : List ℕ) → Bytes s → (b : Book) → answer s ≡ accepted b → (k : ℕ) → k < length b.clauses
    → constraint_of s k ≡ constraint_bytes (get_or b.clauses k none_such).rule
part-written s bytes b held k below =
    let w = headed s b held in
    rw w.is at (constraint-written s w.header bytes w.good k (omega (arith, w.count)))

-- which is at least its kind
pub constraint-some : (t : Constraint) → 0 < length (constraint_bytes t)
unfolding constraint_bytes
constraint-some truth = zero-lt-suc _
constraint-some (at_most s) = zero-lt-suc _
constraint-some (equal s) = zero-lt-suc _
constraint-some (not t) = zero-lt-suc _
constraint-some (and t u) = zero-lt-suc _
constraint-some (or t u) = zero-lt-suc _
constraint-some (remainder s d r) = zero-lt-suc _
