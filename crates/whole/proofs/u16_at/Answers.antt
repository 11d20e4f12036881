use Rattle.whole.specs.Bytes.{u16_at}
use Rattle.whole.proofs.u16_at.Goals as goal

pub returns : goal.returns
unfolding u16_at
returns c = c.from_le_bytes.ensures
