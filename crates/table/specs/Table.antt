-- The table of an accepted book's clauses: what its rows hold, and what they say of the meaning's clauses.
use Rattle.std.specs.Prelude.{ℕ, ◌+◌, ◌<◌, ◌≤◌, ◌≡◌, List, get_or, take, drop, eqb}
use Rattle.std.proofs.Math.Option.{Option, none, some}
use Rattle.std.specs.Prelude as code
use Rattle.table.specs.declared.Seat.{Seat}
use Rattle.table.specs.declared.Row.{Row}
use Rattle.meaning.specs.Book.{Atom, none_such}
use Rattle.cursor.specs.Steps.{pick}
use Rattle.cursor.specs.declared.Clause.{Clause}
use Rattle.cursor.specs.Meaning.{tree_in}
use Rattle.cursor.specs.Sound.{Arguments, IsTree}
use Rattle.book.specs.declared.Header.{Header}
use Rattle.book.specs.Meaning.{book_in}

-- the seat of relation r, whose number stands at p
unfoldable pub seat_of : List ℕ → Header → ℕ → ℕ → Seat
seat_of s h r p = record { at = p + 1; relation = r; many = get_or (book_in s h).arities r 0 }

-- the same of a body, where 255 is none
unfoldable pub body_of : List ℕ → Header → ℕ → ℕ → code.Option Seat
body_of s h r p = pick (eqb r 255) code.None (code.Some (seat_of s h r p))

-- the row of the clause that stands where c says
unfoldable pub row_of : List ℕ → Header → Clause → Row
row_of s h c = record {
  rule = c.rule;
  variables = c.variables;
  head = seat_of s h c.head c.head_at;
  body = body_of s h c.body c.body_at;
}

-- its places are numbers of a row
pub record Fits (h : Header) (c : Clause) : Type 0 where
  pub body : (c.body ≡ 255 → ⊥) → (c.body_at < 60000) × (c.body < h.relations)
  pub head : (c.head_at < 60000) × (c.head < h.relations)
  pub rule : c.rule < 65536

-- ---- what a row says

-- an atom over v variables by its seat in the bytes s
pub record Seated (s : List ℕ) (h : Header) (v : ℕ) (a : Atom) (x : Seat) : Type 0 where
  pub is : a.rel ≡ x.relation
  pub below : x.relation < h.relations
  pub full : x.many ≡ get_or (book_in s h).arities x.relation 0
  pub few : x.many ≤ 8
  pub args : a.args ≡ take x.many (drop x.at s)
  pub arguments : Arguments s v x.at x.many

-- the same of a body
unfoldable pub SeatedBody : List ℕ → Header → ℕ → Option Atom → code.Option Seat → Type 0
SeatedBody s h v none code.None = Unit {0}
SeatedBody s h v none (code.Some x) = ⊥
SeatedBody s h v (some a) code.None = ⊥
SeatedBody s h v (some a) (code.Some x) = Seated s h v a x

-- the row r is that of clause k of the meaning's book
pub record IsRow (s : List ℕ) (h : Header) (k : ℕ) (r : Row) : Type 0 where
  pub vars : (get_or (book_in s h).clauses k none_such).vars ≡ r.variables
  pub few : r.variables ≤ 16
  pub body : SeatedBody s h r.variables (get_or (book_in s h).clauses k none_such).body r.body
  pub head : Seated s h r.variables (get_or (book_in s h).clauses k none_such).head r.head
  pub tree : IsTree s r.variables r.rule
  pub rule : (get_or (book_in s h).clauses k none_such).rule ≡ tree_in s r.variables r.rule

-- past the clauses
abbrev pub no_row : Row
no_row = record { rule = 0; variables = 0; head = record { at = 0; relation = 0; many = 0 }; body = code.None }

-- t is the table of the book that the bytes s hold
pub record Tabled (s : List ℕ) (h : Header) (t : List Row) : Type 0 where
  pub row : (k : ℕ) → k < h.count → IsRow s h k (get_or t k no_row)
