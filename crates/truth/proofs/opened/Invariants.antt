use Rattle.truth.proofs.Sides.{Looks}
use Rattle.truth.proofs.opened.Given as goal

abbrev pub invariant-loop-rest : goal.invariant-loop-rest
invariant-loop-rest l = Looks l.sides l.t l.rest l.passed

abbrev pub decreases-loop-rest : goal.decreases-loop-rest
decreases-loop-rest l = l.rest
