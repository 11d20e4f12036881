use Rattle.std.proofs.Common.{drop, length, take, ◌≡◌}
use Rattle.steps.specs.Put.{Put}
use Rattle.steps.proofs.copy.Given as goal

abbrev pub invariant-loop-j : goal.invariant-loop-j
invariant-loop-j l = (length l.room ≡ length l.initial.room) × Put l.initial.room l.room l.at (take l.j (take l.n (drop l.from l.list)))
