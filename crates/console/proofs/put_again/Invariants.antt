-- What is left to put, from here on, makes of the room what was due in all.
use Rattle.std.proofs.Common.{◌+◌, ◌-◌, ◌≡◌}
use Rattle.console.specs.Console.{again}
use Rattle.console.proofs.put_again.Given as goal

abbrev pub invariant-loop-i : goal.invariant-loop-i
invariant-loop-i l = again (l.at + l.more - l.i) l.count l.i l.room ≡ again l.more l.count l.at l.initial.room
