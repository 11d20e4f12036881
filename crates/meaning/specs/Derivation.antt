-- Derivations, in reading order.
use Rattle.std.specs.Prelude.{◌≡◌, List, [], ◌∷◌}
use Rattle.std.proofs.Math.Option.{Option, none, some}
use Rattle.meaning.specs.Book.{Book, Fact, Step, Instance, head, body}

-- each step is an instance whose body is the fact just before it: o before the first, a step's head before the next
abbrev pub Chain : Book → Option Fact → List Step → Type 0
Chain b o [] = Unit {0}
Chain b o (s ∷ d) = Instance b s × (body b s ≡ o) × Chain b (some (head b s)) d

-- the last head, or o where there is no step
abbrev pub last_head : Book → Option Fact → List Step → Option Fact
last_head b o [] = o
last_head b o (s ∷ d) = last_head b (some (head b s)) d

-- one or more steps, the first of a clause without body, whose last head is f
pub record Derives (b : Book) (d : List Step) (f : Fact) : Type 0 where
  pub chain : Chain b none d
  pub last : last_head b none d ≡ some f

-- some derivation derives f
abbrev pub Derivable : Book → Fact → Type 0
Derivable b f = (d : List Step) × Derives b d f
