use Rattle.std.proofs.Common.{arith}
use Rattle.cursor.proofs.Laws.{relation-below}
use Rattle.cursor.proofs.Cursor.fact.Goals as goal

pub bounds-s-b : goal.bounds-s-b
bounds-s-b c = omega (arith, relation-below _ _ _ c.in_ok-b.ensures)
