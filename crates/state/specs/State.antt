-- The walked state: sixteen flags and sixteen rows of eight places, of which a book uses the first.
use Rattle.std.specs.Prelude.{◌≡◌, Bool, false, List, [], ◌∷◌, ◌++◌, map, ℕ, zero, suc, ◌≤◌, length, get_or, drop, set, replicate, ℤ, pos}
use Rattle.meaning.specs.Book.{Book, Fact}
use Rattle.meaning.specs.State.{Control, State, flags}
use Rattle.lists.specs.Trace.{cut, size}
use Rattle.state.specs.declared.State as code

-- the first n of a list, with d for those that are not there
unfoldable pub front : {A : Type 0} → A → ℕ → List A → List A
front d zero l = []
front d (suc n) [] = d ∷ front d n []
front d (suc n) (x ∷ l) = x ∷ front d n l

-- of each relation's row as many places as its arity says
unfoldable pub rows_of : List ℕ → List (List ℤ) → List (List ℤ)
rows_of [] vs = []
rows_of (n ∷ ns) [] = front (pos 0) n [] ∷ rows_of ns []
rows_of (n ∷ ns) (v ∷ vs) = front (pos 0) n v ∷ rows_of ns vs

-- the state of a control κ and the places that rows hold, over relations of the arities ns
abbrev pub placed : (C : Control) → C.Ctl → List ℕ → List (List ℤ) → State C
placed C κ ns vs = record { ctl = κ; rows = rows_of ns vs }

-- the state that flags and rows hold
unfoldable pub state_of : List ℕ → List Bool → List (List ℤ) → State flags
state_of ns fs vs = placed flags (front false (length ns) fs) ns vs

-- the state that the code's state holds in a book
abbrev pub held : Book → code.State → State flags
held b σ = state_of b.arities σ.flags σ.rows

-- values put over the front of a row
unfoldable pub over : List ℤ → List ℤ → List ℤ
over xs row = xs ++ drop (length xs) row

-- a fact's values put over the front of its relation's row
unfoldable pub row_put : Fact → List (List ℤ) → List (List ℤ)
row_put f vs = set vs f.rel (over f.vals (get_or vs f.rel []))

-- the places at the front of a list as sixteen rows of eight, with zeros for those that are not there
unfoldable pub first_rows : List ℕ → List ℤ → List (List ℤ)
first_rows ns l = front (replicate 8 (pos 0)) 16 (map (front (pos 0) 8) (cut ns l))

-- how many numbers a state has, with a bound for the code
pub record Sized (b : Book) (C : Control) (n : ℕ) : Type 0 where
  pub is : n ≡ size b C
  pub small : n ≤ 144
