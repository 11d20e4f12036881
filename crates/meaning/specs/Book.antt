-- Clause books: relations, clauses, the window; instances and the facts that they give.
use Rattle.std.specs.Prelude.{◌≡◌, ℕ, suc, ◌<◌, List, [], ◌∷◌, map, length, get_or, ℤ, pos, ◌≤ℤ◌, T}
use Rattle.std.proofs.Math.Option.{Option, none, some}
use Rattle.meaning.specs.Constraint.{Constraint, truth, holds}

-- a relation's number and, for each of its places, a variable's number
pub record Atom : Type 0 where
  pub rel : ℕ
  pub args : List ℕ

pub record Clause : Type 0 where
  pub vars : ℕ
  pub body : Option Atom
  pub head : Atom
  pub rule : Constraint

-- the arity of each relation, the clauses, the window's two ends, and the query relation
pub record Book : Type 0 where
  pub arities : List ℕ
  pub clauses : List Clause
  pub lo : ℤ
  pub hi : ℤ
  pub query : ℕ

-- ---- windows

pub record Window : Type 0 where
  pub lo : ℤ
  pub hi : ℤ

-- the window of place i of relation r, and of variable i of a clause: today the book's own
unfoldable pub place_window : Book → ℕ → ℕ → Window
place_window b r i = record { lo = b.lo; hi = b.hi }

unfoldable pub variable_window : Book → Clause → ℕ → Window
variable_window b c i = record { lo = b.lo; hi = b.hi }

pub record Inside (w : Window) (v : ℤ) : Type 0 where
  pub low : w.lo ≤ℤ v
  pub high : v ≤ℤ w.hi

-- value 0 lies in window 0, value 1 in window 1, and so on
abbrev pub Within : (ℕ → Window) → List ℤ → Type 0
Within w [] = Unit {0}
Within w (v ∷ vs) = Inside (w 0) v × Within (λ i. w (suc i)) vs

-- ---- instances

-- a relation with values
pub record Fact : Type 0 where
  pub rel : ℕ
  pub vals : List ℤ

-- a clause's number and a value for each of its variables
pub record Step : Type 0 where
  pub clause : ℕ
  pub vals : List ℤ

-- what stands for a clause that is not there
abbrev pub none_such : Clause
none_such = record { vars = 0; body = none; head = record { rel = 0; args = [] }; rule = truth }

abbrev pub clause_of : Book → Step → Clause
clause_of b s = get_or b.clauses s.clause none_such

-- an atom at some values
abbrev pub at : List ℤ → Atom → Fact
at vs a = record { rel = a.rel; vals = map (λ (i : ℕ). get_or vs i (pos 0)) a.args }

abbrev pub at_body : List ℤ → Option Atom → Option Fact
at_body vs none = none
at_body vs (some a) = some (at vs a)

-- the two facts of a step
unfoldable pub head : Book → Step → Fact
head b s = at s.vals (clause_of b s).head

unfoldable pub body : Book → Step → Option Fact
body b s = at_body s.vals (clause_of b s).body

-- each variable has a value in its window, and the constraint is true
pub record Instance (b : Book) (s : Step) : Type 0 where
  pub there : s.clause < length b.clauses
  pub count : length s.vals ≡ (clause_of b s).vars
  pub within : Within (variable_window b (clause_of b s)) s.vals
  pub true_of : T (holds s.vals (clause_of b s).rule)

-- the query relation, which has no places, as a fact
abbrev pub query : Book → Fact
query b = record { rel = b.query; vals = [] }
