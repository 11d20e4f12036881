use Rattle.std.proofs.Common.{drop, length, take, ◌-◌}
use Rattle.meaning.specs.Constraint.{holds}
use Rattle.cursor.specs.Meaning.{tree_in}
use Rattle.truth.proofs.Due.{Waited}
use Rattle.truth.proofs.walk.Given as goal

abbrev pub invariant-loop-want : goal.invariant-loop-want
invariant-loop-want l =
    Waited l.s l.v (take l.v (drop l.from l.values)) (holds (take l.v (drop l.from l.values)) (tree_in l.s l.v l.p)) l.sides l.at l.want

abbrev pub decreases-loop-want : goal.decreases-loop-want
decreases-loop-want l = length l.s - l.at
