-- Models: a predicate of facts that every instance respects and that the query does not satisfy.
use Rattle.std.specs.Prelude.{◌≡◌, List, length, get_or, T}
use Rattle.std.proofs.Math.Option.{Option, none, some}
use Rattle.meaning.specs.Constraint.{Constraint, truth, holds}
use Rattle.meaning.specs.Book.{Book, Fact, Step, Instance, head, body, query}

-- the body, if there is one, satisfies P
abbrev pub All : (Fact → Type 0) → Option Fact → Type 0
All P none = Unit {0}
All P (some f) = P f

pub record Excludes (b : Book) (P : Fact → Type 0) : Type 0 where
  pub closed : (s : Step) → Instance b s → All P (body b s) → P (head b s)
  pub denies : ¬ P (query b)

-- a fact satisfies a model when its relation's constraint is true of its values
pub record Satisfies (m : List Constraint) (f : Fact) : Type 0 where
  pub true_of : T (holds f.vals (get_or m f.rel truth))

-- one constraint for each relation: each instance whose body satisfies its own has a head that does, and the query's is false
pub record Model (b : Book) (m : List Constraint) : Type 0 where
  pub one_each : length m ≡ length b.arities
  pub excludes : Excludes b (Satisfies m)
