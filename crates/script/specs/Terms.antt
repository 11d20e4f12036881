-- The terms of the printed text: the limits of a name, equations, sums and constraints.
use Rattle.std.specs.Prelude.{List, ℕ, ℤ, pos}
use Rattle.meaning.specs.Constraint.{Sum, Constraint, truth, at_most, equal, not, and, or, remainder}
use Rattle.meaning.specs.Book.{Window}
use Rattle.sexp.specs.Sexp.{Sexp, Sexps, word, list, end, ◌&◌, over, w}
use Rattle.put.specs.Digits.{digits}
use Rattle.put.specs.Number.{num}
use Rattle.script.specs.Names.{input_name, next}

-- the window's two limits of a name
unfoldable pub limits : Window → List ℕ → Sexps
limits o n = list (w "<=" & num o.lo & word n & end) & list (w "<=" & word n & num o.hi & end) & end

unfoldable pub same : List ℕ → List ℕ → Sexp
same a b = list (w "=" & word a & word b & end)

-- a step leaves it as it is
abbrev pub kept : List ℕ → Sexp
kept n = same (next n) n

-- ---- a clause's constraint, where k is the clause's number

-- a coefficient times its variable, which is variable i
unfoldable pub product : ℕ → ℕ → ℤ → Sexps
product k i c = list (w "*" & num c & word (input_name k i) & end) & end

unfoldable pub sum : ℕ → Sum → Sexp
sum k s = list (w "+" & w "0" & num s.constant & over (pos 0) s.coefficients (product k))

-- kinds 1 and 2
unfoldable pub compared : Sexp → Sexp → Sexp
compared rel s = list (rel & s & w "0" & end)

-- kind 6
unfoldable pub remains : Sexp → ℕ → ℕ → Sexp
remains s d r =
    list (w "and"
    & list (w "<=" & w "0" & s & end)
    & list (w "=" & list (w "mod" & s & word (digits d) & end) & word (digits r) & end)
    & end)

unfoldable pub constraint : ℕ → Constraint → Sexp
constraint k truth = w "true"
constraint k (at_most s) = compared (w "<=") (sum k s)
constraint k (equal s) = compared (w "=") (sum k s)
constraint k (not t) = list (w "not" & constraint k t & end)
constraint k (and t u) = list (w "and" & constraint k t & constraint k u & end)
constraint k (or t u) = list (w "or" & constraint k t & constraint k u & end)
constraint k (remainder s d r) = remains (sum k s) d r
