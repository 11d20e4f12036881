use Rattle.std.proofs.Common.{◌≡◌}
use Rattle.odometer.specs.Variables.{windows}
use Rattle.models.specs.Assignments.{count}
use Rattle.models.specs.Cap.{cap}
use Rattle.odometer.proofs.Odometer.count.Given as goal

abbrev pub invariant-loop-i : goal.invariant-loop-i
invariant-loop-i l = l.all ≡ cap (count (windows l.self) l.i)
