-- The end lies within the room.
use Rattle.std.proofs.Common.{◌≤◌, length}
use Rattle.console.proofs.put_list.Given as goal

abbrev pub invariant-loop : goal.invariant-loop
invariant-loop g l = l.end ≤ length l.initial.room
