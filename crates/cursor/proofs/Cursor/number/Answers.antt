use Rattle.cursor.proofs.Laws.{skip-room}
use Rattle.cursor.proofs.Cursor.number.Goals as goal

pub u16_at-requires : goal.u16_at-requires
u16_at-requires c = skip-room _ _ _ c.in_ok-c.ensures
