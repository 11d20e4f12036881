use Rattle.std.proofs.Common.{ap, ◌∙◌, to_z}
use Rattle.std.specs.Int.{w32}
use Rattle.whole.specs.Whole.{own}
use Rattle.whole.specs.Bytes.{i32_at}
use Rattle.whole.proofs.int_at.Goals as goal

pub returns : goal.returns
unfolding i32_at
returns c = own w32 _ c.cast_signed.type_inv ∙ c.cast_signed.ensures ∙ ap (to_z w32) c.u32_at.ensures
