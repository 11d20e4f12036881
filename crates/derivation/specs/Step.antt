-- What the derivation check remembers between two steps.
use Rattle.std.specs.Prelude.{ℕ, ◌+◌, ◌<◌, ◌≤◌, List, length, drop, ℤ}
use Rattle.std.specs.Prelude as code
use Rattle.std.proofs.Math.Option.{Option, none, some}
use Rattle.meaning.specs.Book as meanings
use Rattle.meaning.specs.Book.{Book, Fact, head}
use Rattle.lists.specs.Instance.{clause_at, step_at}
use Rattle.book.specs.declared.Header.{Header}
use Rattle.instance.specs.Values.{number_in}
use Rattle.derivation.specs.declared.Step.{Step}

-- the meaning's step
abbrev pub step_of : Book → List ℤ → Step → meanings.Step
step_of b l x = step_at b x.clause (drop x.since l)

-- the head of the step before, if there is one
unfoldable pub fact_after : Book → List ℤ → code.Option Step → Option Fact
fact_after b l code.None = none
fact_after b l (code.Some x) = some (head b (step_of b l x))

-- the step that stands at place i
abbrev pub step_in : List ℕ → Header → List ℤ → ℕ → Step
step_in s h l i = record { clause = number_in s h l i; since = i + 1 }

-- it is by a clause of the book, and its values stand there in full
pub record Stands (b : Book) (l : List ℤ) (x : Step) : Type 0 where
  pub below : x.clause < length b.clauses
  pub room : x.since + (clause_at b x.clause).vars ≤ length l
