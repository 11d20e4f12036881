use Rattle.std.proofs.Common.{◌*◌}
use Rattle.meaning.specs.State.{flags}
use Rattle.back.specs.Held.{book_of}
use Rattle.back.specs.Gone.{Gone}
use Rattle.back.proofs.Trace.write.Given as goal

abbrev pub invariant-loop-m : goal.invariant-loop-m
invariant-loop-m l = Gone (book_of l.self) flags l.self.list.now (l.fn.measured.marks * 512) l.initial.w l.initial.room (l.m * 512) l.w l.room
