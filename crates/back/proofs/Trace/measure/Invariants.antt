use Rattle.std.proofs.Common.{length, ◌-◌}
use Rattle.meaning.specs.State.{flags}
use Rattle.back.specs.Held.{book_of}
use Rattle.back.proofs.Laws.{Counted, Marking}
use Rattle.back.proofs.Trace.measure.Given as goal

abbrev pub invariant-loop-i : goal.invariant-loop-i
invariant-loop-i l = Counted (book_of l.self) flags l.self.list.now l.counts l.i l.k × Marking (book_of l.self) l.self.size l.self.list.now l.initial.marks l.marks l.k

abbrev pub decreases-loop-i : goal.decreases-loop-i
decreases-loop-i l = length l.self.list.now - l.i
