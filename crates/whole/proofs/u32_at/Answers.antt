use Rattle.std.proofs.Common.{arith}
use Rattle.whole.specs.Bytes.{u16_at, u32_at}
use Rattle.whole.proofs.u32_at.Goals as goal

pub returns : goal.returns
unfolding u16_at u32_at
returns c = grind (arith, c.from_le_bytes.ensures)
