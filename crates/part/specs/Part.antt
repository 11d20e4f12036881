-- A clause out of the bytes of the whole book b.
use Rattle.std.specs.Prelude.{ℕ, ◌+◌, ◌<◌, ◌≤◌, length, get_or, take, drop, eqb}
use Rattle.std.proofs.Math.Option.{Option, none, some}
use Rattle.meaning.specs.Book.{Atom, Clause}
use Rattle.cursor.specs.declared.Clause as code
use Rattle.cursor.specs.Steps.{pick}
use Rattle.cursor.specs.Meaning.{tree_in}
use Rattle.book.specs.declared.held.Book.{Book}
use Rattle.book.specs.Held.{meant}

module _ (b : Book) where
  -- relation r is there, and so are its arguments after the place p
  pub record Stands (r p : ℕ) : Type 0 where
    pub below : r < b.header.relations
    pub within : p + 1 + get_or (meant b).arities r 0 ≤ length b.bytes.now

  unfoldable pub atom_of : ℕ → ℕ → Atom
  atom_of r p = record { rel = r; args = take (get_or (meant b).arities r 0) (drop (p + 1) b.bytes.now) }

  -- 255 is no body
  unfoldable pub body_of : ℕ → ℕ → Option Atom
  body_of r p = pick (eqb r 255) none (some (atom_of r p))

  unfoldable pub clause_of : code.Clause → Clause
  clause_of l = record {
    vars = l.variables;
    body = body_of l.body l.body_at;
    head = atom_of l.head l.head_at;
    rule = tree_in b.bytes.now l.variables l.rule;
  }
