use Rattle.std.proofs.Common.{length, ◌-◌}
use Rattle.lists.specs.Derivation.{goal}
use Rattle.derivation.proofs.Laws.{Going}
use Rattle.derivation.proofs.Claim.walk.Given as goal

abbrev pub invariant-loop-i : goal.invariant-loop-i
invariant-loop-i l = Going l.self.table.now.book.bytes.now l.self.table.now.book.header (goal l.self.relation l.self.values.now) l.self.list.now l.i l.last l.steps

abbrev pub decreases-loop-i : goal.decreases-loop-i
decreases-loop-i l = length l.self.list.now - l.i
