use Rattle.std.proofs.Common.{arith}
use Rattle.std.proofs.KnownBytes.{Consumes-trans}
use Rattle.console.proofs.Laws.{take-put_behind}
use Rattle.console.proofs.read_full.Goals as goal

pub loop-done-preserved : goal.loop-done-preserved
loop-done-preserved g c =
    let t = c.loop-done in
    let few = c.in_ok-n.ensures.bound in (
      omega arith,
      rw (take-put_behind t.room c.read.new.buf t.done _ c.in_ok-n.n (omega arith) few.0) (Consumes-trans _ _ _ _ _ t.invariant.1 c.in_ok-n.ensures.bytes.0),
    )
