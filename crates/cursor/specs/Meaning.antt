-- The meaning's clause that a record holds.
use Rattle.std.specs.Prelude.{ℕ, ◌+◌, List, get_or, take, drop, eqb, Ok, Err}
use Rattle.std.proofs.Math.Option.{Option, none, some}
use Rattle.meaning.specs.Constraint.{Constraint, truth}
use Rattle.meaning.specs.Book as meant
use Rattle.cursor.specs.declared.Clause.{Clause}
use Rattle.cursor.specs.Steps.{pick, Read}
use Rattle.cursor.specs.Tree.{tree_at}

-- relation b with the arguments that stand after the place p; the arities stand at the front of s
unfoldable pub atom_in : List ℕ → ℕ → ℕ → meant.Atom
atom_in s b p = record { rel = b; args = take (get_or s b 0) (drop (p + 1) s) }

-- 255 is no body
unfoldable pub body_in : List ℕ → ℕ → ℕ → Option meant.Atom
body_in s b p = pick (eqb b 255) none (some (atom_in s b p))

unfoldable pub tree_of : Read Constraint → Constraint
tree_of (Ok (t, c)) = t
tree_of (Err r) = truth

-- the constraint at p, over v variables
unfoldable pub tree_in : List ℕ → ℕ → ℕ → Constraint
tree_in s v p = tree_of (tree_at s v 16 (record { at = p; left = 64 }))

-- the clause whose parts stand where l says
unfoldable pub clause_in : List ℕ → Clause → meant.Clause
clause_in s l = record {
  vars = l.variables;
  body = body_in s l.body l.body_at;
  head = atom_in s l.head l.head_at;
  rule = tree_in s l.variables l.rule;
}

unfoldable pub clause_or : List ℕ → Read Clause → meant.Clause
clause_or s (Ok (l, past)) = clause_in s l
clause_or s (Err r) = meant.none_such
