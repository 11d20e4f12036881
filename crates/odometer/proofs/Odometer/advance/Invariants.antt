use Rattle.std.proofs.Common.{◌≡◌}
use Rattle.odometer.specs.Variables.{windows}
use Rattle.models.specs.Odometer.{up}
use Rattle.odometer.proofs.Odometer.advance.Given as goal

abbrev pub invariant-loop-i : goal.invariant-loop-i
invariant-loop-i l =
    up (windows l.self) l.i l.values ≡ up (windows l.self) l.self.many l.initial.values
