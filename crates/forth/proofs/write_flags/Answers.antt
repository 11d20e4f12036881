use Rattle.std.proofs.Common.{arith, length-set}
use Rattle.forth.proofs.Laws.{flags-more}
use Rattle.forth.proofs.write_flags.Goals as goal

pub loop-j-preserved : goal.loop-j-preserved
loop-j-preserved c =
    let a = c.args in
    let t = c.loop-j in (
      rw length-set t.invariant.0,
      flags-more a.room.now t.room a.at t.j a.flags.now t.invariant.1 c.requires (omega arith),
    )
