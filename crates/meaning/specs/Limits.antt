-- Document 01's limits of a book, with no bytes in them.
use Rattle.std.specs.Prelude.{◌≡◌, List, [], ◌∷◌, ℕ, suc, ◌+◌, ◌≤◌, ◌<◌, max, length, get_or, ◌≤ℤ◌}
use Rattle.std.proofs.Math.Option.{Option, none, some}
use Rattle.std.specs.Int.{w16, w32}
use Rattle.std.proofs.Common.{SFits}
use Rattle.meaning.specs.Constraint.{Sum, Constraint, truth, at_most, equal, not, and, or, remainder}
use Rattle.meaning.specs.Book.{Atom, Clause, Book}

abbrev pub Each : {A : Type 0} → (A → Type 0) → List A → Type 0
Each P [] = Unit {0}
Each P (x ∷ xs) = P x × Each P xs

-- how many nodes a constraint has, and how deep it is: a root has depth 1
unfoldable pub nodes : Constraint → ℕ
nodes truth = 1
nodes (at_most s) = 1
nodes (equal s) = 1
nodes (not t) = suc (nodes t)
nodes (and t u) = suc (nodes t + nodes u)
nodes (or t u) = suc (nodes t + nodes u)
nodes (remainder s d r) = 1

unfoldable pub depth : Constraint → ℕ
depth truth = 1
depth (at_most s) = 1
depth (equal s) = 1
depth (not t) = suc (depth t)
depth (and t u) = suc (max (depth t) (depth u))
depth (or t u) = suc (max (depth t) (depth u))
depth (remainder s d r) = 1

-- a coefficient of 16 bits for each of v variables, a constant of 32
pub record SumLimits (v : ℕ) (s : Sum) : Type 0 where
  pub each : length s.coefficients ≡ v
  pub coefficients : Each (SFits w16) s.coefficients
  pub constant : SFits w32 s.constant

pub record Divides (d r : ℕ) : Type 0 where
  pub some : 0 < d
  pub small : d < 65536
  pub less : r < d

-- the numbers of a constraint over v variables
unfoldable pub Numbers : ℕ → Constraint → Type 0
Numbers v truth = Unit {0}
Numbers v (at_most s) = SumLimits v s
Numbers v (equal s) = SumLimits v s
Numbers v (not t) = Numbers v t
Numbers v (and t u) = Numbers v t × Numbers v u
Numbers v (or t u) = Numbers v t × Numbers v u
Numbers v (remainder s d r) = SumLimits v s × Divides d r

pub record ConstraintLimits (v : ℕ) (t : Constraint) : Type 0 where
  pub numbers : Numbers v t
  pub few : nodes t ≤ 64
  pub shallow : depth t ≤ 16

-- the relation is there, and has as many arguments as its arity says, each one of v variables
pub record AtomLimits (arities : List ℕ) (v : ℕ) (a : Atom) : Type 0 where
  pub there : a.rel < length arities
  pub full : length a.args ≡ get_or arities a.rel 0
  pub known : Each (λ (i : ℕ). i < v) a.args

abbrev pub BodyLimits : List ℕ → ℕ → Option Atom → Type 0
BodyLimits arities v none = Unit {0}
BodyLimits arities v (some a) = AtomLimits arities v a

pub record ClauseLimits (arities : List ℕ) (c : Clause) : Type 0 where
  pub few : c.vars ≤ 16
  pub body : BodyLimits arities c.vars c.body
  pub head : AtomLimits arities c.vars c.head
  pub rule : ConstraintLimits c.vars c.rule

pub record Limits (b : Book) : Type 0 where
  pub some : 1 ≤ length b.arities
  pub few : length b.arities ≤ 16
  pub arities : Each (λ (n : ℕ). n ≤ 8) b.arities
  pub query : b.query < length b.arities
  pub nullary : get_or b.arities b.query 0 ≡ 0
  pub short : length b.clauses ≤ 64
  pub clauses : Each (ClauseLimits b.arities) b.clauses
  pub window : b.lo ≤ℤ b.hi
  pub lo : SFits w32 b.lo
  pub hi : SFits w32 b.hi
