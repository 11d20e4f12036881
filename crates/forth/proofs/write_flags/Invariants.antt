use Rattle.std.proofs.Common.{length, map, take, ◌≡◌}
use Rattle.meaning.specs.State.{bit}
use Rattle.steps.specs.Put.{Put}
use Rattle.forth.proofs.write_flags.Given as goal

abbrev pub invariant-loop-j : goal.invariant-loop-j
invariant-loop-j l = (length l.room ≡ length l.initial.room) × Put l.initial.room l.room l.at (take l.j (map bit l.flags))
