use Rattle.std.proofs.Common.{pos, replicate, ◌≡◌}
use Rattle.odometer.specs.Variables.{windows}
use Rattle.models.specs.Odometer.{lows}
use Rattle.odometer.proofs.Odometer.first.Given as goal

abbrev pub invariant-loop-i : goal.invariant-loop-i
invariant-loop-i l = l.values ≡ lows (windows l.self) l.i (replicate 16 (pos 0))
