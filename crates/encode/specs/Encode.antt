-- A book as bytes: document 01's format, written out.
use Rattle.std.specs.Prelude.{ℕ, ◌+◌, List, [], ◌∷◌, ◌++◌, length}
use Rattle.std.proofs.Math.Option.{Option, none, some}
use Rattle.whole.specs.Bytes.{u16_bytes, i16_bytes, i32_bytes}
use Rattle.meaning.specs.Constraint.{Sum, Constraint, truth, at_most, equal, not, and, or, remainder}
use Rattle.meaning.specs.Book.{Atom, Clause, Book}

-- one after the other, without gaps
unfoldable pub spell : {A : Type 0} → (A → List ℕ) → List A → List ℕ
spell f [] = []
spell f (x ∷ xs) = f x ++ spell f xs

-- a coefficient for each variable, then the constant
unfoldable pub sum_bytes : Sum → List ℕ
sum_bytes s = spell i16_bytes s.coefficients ++ i32_bytes s.constant

-- a kind byte and its data, prefix first
unfoldable pub constraint_bytes : Constraint → List ℕ
constraint_bytes truth = 0 ∷ []
constraint_bytes (at_most s) = 1 ∷ sum_bytes s
constraint_bytes (equal s) = 2 ∷ sum_bytes s
constraint_bytes (not t) = 3 ∷ constraint_bytes t
constraint_bytes (and t u) = 4 ∷ (constraint_bytes t ++ constraint_bytes u)
constraint_bytes (or t u) = 5 ∷ (constraint_bytes t ++ constraint_bytes u)
constraint_bytes (remainder s d r) = 6 ∷ (sum_bytes s ++ (u16_bytes d ++ u16_bytes r))

-- a relation and its argument bytes
unfoldable pub atom_bytes : Atom → List ℕ
atom_bytes a = a.rel ∷ a.args

-- 255 for no body
unfoldable pub body_bytes : Option Atom → List ℕ
body_bytes none = 255 ∷ []
body_bytes (some a) = atom_bytes a

-- a clause record
unfoldable pub clause_bytes : Clause → List ℕ
clause_bytes c = c.vars ∷ (body_bytes c.body ++ (atom_bytes c.head ++ constraint_bytes c.rule))

-- where each record starts, the first at p
unfoldable pub starts : ℕ → List Clause → List ℕ
starts p [] = []
starts p (c ∷ cs) = p ∷ starts (p + length (clause_bytes c)) cs

-- where the index starts
unfoldable pub index_start : Book → ℕ
index_start b = length b.arities + length (spell clause_bytes b.clauses)

unfoldable pub trailer_bytes : Book → List ℕ
trailer_bytes b =
    i32_bytes b.lo ++ (i32_bytes b.hi ++ (u16_bytes (index_start b) ++ (u16_bytes (length b.clauses) ++
    (length b.arities ∷ b.query ∷ 1 ∷ 0 ∷ []))))

-- the arities, the records, the index, the trailer
unfoldable pub encode : Book → List ℕ
encode b =
    b.arities ++ (spell clause_bytes b.clauses ++ (spell u16_bytes (starts (length b.arities) b.clauses) ++ trailer_bytes b))
