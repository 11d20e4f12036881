use Rattle.std.proofs.Common.{length, take, ◌≡◌}
use Rattle.parts.specs.Task.{places_of}
use Rattle.parts.proofs.gather.Given as goal

abbrev pub invariant-loop-k : goal.invariant-loop-k
invariant-loop-k l = (length l.places ≡ 8) × (take l.k l.places ≡ places_of l.s l.seat l.k l.values)
