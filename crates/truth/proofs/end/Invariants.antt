use Rattle.std.proofs.Common.{length, ◌-◌}
use Rattle.truth.proofs.Rows.{Passing}
use Rattle.truth.proofs.end.Given as goal

abbrev pub invariant-loop-n : goal.invariant-loop-n
invariant-loop-n l = Passing l.s l.v l.left l.p l.n l.at

abbrev pub decreases-loop-n : goal.decreases-loop-n
decreases-loop-n l = length l.s - l.at
