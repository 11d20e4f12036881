use Rattle.std.proofs.Common.{ap, ◌∙◌, to_z}
use Rattle.std.specs.Int.{w16}
use Rattle.whole.specs.Whole.{widen}
use Rattle.whole.specs.Bytes.{i16_at}
use Rattle.whole.proofs.i16_at.Goals as goal

pub returns : goal.returns
unfolding i16_at
returns c = rw c.from.ensures (widen w16 _ tt c.short.type_inv (c.short.ensures ∙ ap (to_z w16) c.u16_at.ensures))
