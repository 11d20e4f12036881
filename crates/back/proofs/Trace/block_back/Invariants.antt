use Rattle.std.proofs.Common.{length, ◌*◌, ◌+◌}
use Rattle.meaning.specs.State.{flags}
use Rattle.back.specs.Held.{book_of}
use Rattle.back.specs.Gone.{Gone}
use Rattle.back.proofs.Laws.{Placed}
use Rattle.back.proofs.Trace.block_back.Given as goal

abbrev pub invariant-loop-start : goal.invariant-loop-start
invariant-loop-start l =
    let left = l.start-iterator.iter.rest.now in
    Placed (book_of l.self) flags l.self.list.now (l.m * 512) left
    × Gone (book_of l.self) flags l.self.list.now (l.m * 512 + 512) l.initial.w l.initial.room (l.m * 512 + length left) l.w l.room
