-- What reading a whole constraint answers.
use Rattle.std.specs.Prelude.{ℕ, zero, suc, List, Ok, Err}
use Rattle.cursor.specs.declared.Cursor.{Cursor}
use Rattle.cursor.specs.declared.Node.{Node}
use Rattle.cursor.specs.declared.Node.TheVariants.{True, Compare, Not, And, Or, Remainder}
use Rattle.reply.specs.Answer.{refuse}
use Rattle.reply.specs.Then.{◌>>=◌}
use Rattle.cursor.specs.Steps.{Step, byte_at, node_at}

-- what follows a node, where `read` reads one more
unfoldable pub follow : Node → (Cursor → Step) → Cursor → Step
follow True read c = Ok c
follow (Compare a) read c = Ok c
follow Not read c = read c
follow And read c = read c >>= read
follow Or read c = read c >>= read
follow (Remainder m) read c = Ok c

unfoldable pub constraint_at : ℕ → List ℕ → ℕ → Cursor → Step
constraint_at zero s v c = byte_at s c >>= λ _. Err (refuse 7 c.at)
constraint_at (suc depth) s v c = do
  (n, next) ← node_at s v c
  follow n (constraint_at depth s v) next
