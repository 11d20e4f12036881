use Rattle.std.proofs.Common.{length, ◌-◌}
use Rattle.lists.specs.Derivation.{goal}
use Rattle.trace.proofs.Laws.{Going}
use Rattle.trace.proofs.Claim.walk.Given as given

abbrev pub invariant-loop-i : given.invariant-loop-i
invariant-loop-i l =
    let t = l.self in
    Going t.table.now.book.bytes.now t.table.now.book.header (goal t.relation t.values.now) t.list.now t.size l.i l.state

abbrev pub decreases-loop-i : given.decreases-loop-i
decreases-loop-i l = length l.self.list.now - l.i
