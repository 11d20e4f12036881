-- What the model check accepts, the reply for the bytes of a book, and how many assignments a clause has.
use Rattle.std.specs.Prelude.{◌≡◌, List, ℕ, ◌^◌, ◌≤◌, length}
use Rattle.meaning.specs.Constraint.{Constraint}
use Rattle.meaning.specs.Book.{Book, Clause, variable_window}
use Rattle.meaning.specs.Limits.{Limits}
use Rattle.meaning.specs.Model.{Model}
use Rattle.encode.specs.Encode.{spell, constraint_bytes, encode}
use Rattle.encode.specs.RoundTrip.{answer-encode}
use Rattle.models.specs.Assignments.{width, count}
use Rattle.models.specs.Order.{count-power}
use Rattle.models.specs.Walk.{total}
use Rattle.models.specs.Answer.{examine, model_answer}
use Rattle.models.specs.Written.{Fit}
use Rattle.models.specs.Exact.{answered}
-- refused with 25: the first broken instance is named, and its count is its position
pub use Rattle.models.specs.Exact.{Broken, FirstBroken, Breaks, broken_at}

-- the bytes s are a model of b written out, and there are at most a million assignments
pub record Accepted (b : Book) (s : List ℕ) : Type 0 where
  pub model : List Constraint
  pub fit : Fit b.arities model
  pub written : s ≡ spell constraint_bytes model
  pub is : Model b model
  pub few : total b ≤ 1000000

-- the reply for the bytes of a book within the limits is the one for that book
pub answered-encode : (b : Book) → Limits b → length (encode b) ≤ 60000 → (s : List ℕ) → model_answer (encode b) s ≡ examine b s
answered-encode b l small s = answered (encode b) s (answer-encode b l small)

-- a clause has (hi − lo + 1) to the power V assignments
pub clause-count : (b : Book) (c : Clause) → count (variable_window b c) c.vars ≡ width (record { lo = b.lo; hi = b.hi }) ^ c.vars
unfolding variable_window
clause-count b c = count-power (record { lo = b.lo; hi = b.hi }) c.vars
