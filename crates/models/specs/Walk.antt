-- What a model check tries: the assignments of every clause in order, and the first that breaks the model.
use Rattle.std.specs.Prelude.{◌≡◌, Bool, true, ◌&&◌, not, List, [], ◌∷◌, ◌++◌, map, ℕ, suc, ◌+◌, ◌<◌, length, get_or, take, ℤ}
use Rattle.std.proofs.Math.Option.{Option, none, some}
use Rattle.meaning.specs.Constraint.{Constraint, truth, holds}
use Rattle.meaning.specs.Book.{Book, Clause, Fact, Step, Within, variable_window, clause_of, head, body}
use Rattle.cursor.specs.Steps.{pick}
use Rattle.models.specs.Assignments.{assignments, count, rank}

-- a clause that is there, with a value in its window for each of its variables
pub record Assignment (b : Book) (s : Step) : Type 0 where
  pub there : s.clause < length b.clauses
  pub count : length s.vals ≡ (clause_of b s).vars
  pub within : Within (variable_window b (clause_of b s)) s.vals

-- ---- in order: by clause number, then values

abbrev pub step : ℕ → List ℤ → Step
step k vs = record { clause = k; vals = vs }

-- clause k, which is c, at each of its assignments
abbrev pub tries : Book → ℕ → Clause → List Step
tries b k c = map (step k) (assignments (variable_window b c) c.vars)

-- the clauses cs, the first of which has number k
unfoldable pub tries_from : Book → ℕ → List Clause → List Step
tries_from b k [] = []
tries_from b k (c ∷ cs) = tries b k c ++ tries_from b (suc k) cs

unfoldable pub walk : Book → List Step
walk b = tries_from b 0 b.clauses

-- ---- how many, and where one stands

-- all assignments of some clauses
unfoldable pub sum : Book → List Clause → ℕ
sum b [] = 0
sum b (c ∷ cs) = count (variable_window b c) c.vars + sum b cs

unfoldable pub total : Book → ℕ
total b = sum b b.clauses

-- those of the clauses before, those of its own clause before it, and itself
unfoldable pub position : Book → Step → ℕ
position b s = sum b (take s.clause b.clauses) + rank (variable_window b (clause_of b s)) (clause_of b s).vars s.vals + 1

-- ---- what breaks a model

-- the fact's relation has a constraint that is true of its values
unfoldable pub satisfies : List Constraint → Fact → Bool
satisfies m f = holds f.vals (get_or m f.rel truth)

-- there is no body, or it satisfies its relation's constraint
unfoldable pub met : List Constraint → Option Fact → Bool
met m none = true
met m (some f) = satisfies m f

-- an instance whose body is met and whose head does not satisfy its own constraint
unfoldable pub breaks : Book → List Constraint → Step → Bool
breaks b m s = holds s.vals (clause_of b s).rule && (met m (body b s) && not (satisfies m (head b s)))

-- what was found: none broken, with how many were examined, or the first broken one and its count
pub data Finding : Type 0 where
  clean : ℕ → Finding
  broken : ℕ → Step → Finding

-- the first broken one of some, where n were examined before them
unfoldable pub find : Book → List Constraint → ℕ → List Step → Finding
find b m n [] = clean n
find b m n (s ∷ ss) = pick (breaks b m s) (broken (n + 1) s) (find b m (n + 1) ss)

-- go on where none was broken so far
unfoldable pub find_then : Finding → (ℕ → Finding) → Finding
find_then (clean n) go = go n
find_then (broken n s) go = broken n s
