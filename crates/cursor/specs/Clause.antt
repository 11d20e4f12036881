-- What reading a clause record answers. `s` is the book up to the index, `n` the number of relations.
use Rattle.std.specs.Prelude.{ℕ, zero, suc, List, get_or, eqb, Ok}
use Rattle.cursor.specs.declared.Cursor.{Cursor}
use Rattle.cursor.specs.declared.Clause.{Clause}
use Rattle.reply.specs.Then.{◌>>=◌}
use Rattle.cursor.specs.Steps.{Step, Read, pick, byte_at, relation_at, variable_at}
use Rattle.cursor.specs.Walk.{constraint_at}

unfoldable pub arguments_at : ℕ → List ℕ → ℕ → Cursor → Step
arguments_at zero s v c = Ok c
arguments_at (suc k) s v c = do
  (_, next) ← variable_at s v c
  arguments_at k s v next

unfoldable pub fact_at : List ℕ → ℕ → ℕ → Cursor → Read ℕ
fact_at s n v c = do
  (b, next) ← relation_at s n c
  past ← arguments_at (get_or s b 0) s v next
  Ok (b, past)

unfoldable pub body_at : List ℕ → ℕ → ℕ → Cursor → Read ℕ
body_at s n v c = do
  (b, next) ← byte_at s c
  pick (eqb b 255) (Ok (b, next)) (fact_at s n v c)

-- number of variables, body, head, and where the constraint starts
unfoldable pub parts_at : List ℕ → ℕ → Cursor → Read Clause
parts_at s n c = do
  (v, c1) ← variable_at s 17 c
  (b, c2) ← body_at s n v c1
  (h, c3) ← fact_at s n v c2
  Ok (record { variables = v; body = b; body_at = c1.at; head = h; head_at = c2.at; rule = c3.at }, c3)

-- the parts, then one constraint of at most 64 nodes and depth 16
unfoldable pub clause_at : List ℕ → ℕ → Cursor → Read Clause
clause_at s n c = do
  (l, c3) ← parts_at s n c
  past ← constraint_at 16 s l.variables (record { at = c3.at; left = 64 })
  Ok (l, past)
