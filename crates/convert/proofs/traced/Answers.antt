use Rattle.std.proofs.Common.{arith}
use Rattle.meaning.specs.State.{flags}
use Rattle.lists.specs.Convert.{as_trace}
use Rattle.book.specs.Held.{meant}
use Rattle.convert.proofs.Laws.{long-is, long-small, replies-long, replies-short, replies-put}
use Rattle.convert.proofs.traced.Goals as goal

pub overflow_add-all : goal.overflow_add-all
overflow_add-all c = omega (arith, c.size-size.ensures.small, c.requires.long.few)

pub overflow_mul-all : goal.overflow_mul-all
overflow_mul-all c = record { fits = omega (arith, long-small c.requires.long c.size-size.ensures.small) }

pub overflow_add-all-2 : goal.overflow_add-all-2
overflow_add-all-2 c = record { fits = omega (arith, long-small c.requires.long c.size-size.ensures.small) }

pub returns-then-all-gt-MOST : goal.returns-then-all-gt-MOST
returns-then-all-gt-MOST c =
    let a = c.args in
    rw c.refuse.ensures (replies-long (as_trace (meant a.table.now.book) flags a.list.now) a.room.now _ (long-is c.requires.long c.size-size.ensures.is) c.if-all-gt-MOST.true)

pub returns-then-room-all : goal.returns-then-room-all
returns-then-room-all c =
    let a = c.args in
    rw c.refuse-then-room-all.ensures (replies-short (as_trace (meant a.table.now.book) flags a.list.now) a.room.now _ (long-is c.requires.long c.size-size.ensures.is) c.if-all-gt-MOST.false c.if-room-all.true)

pub write-requires : goal.write-requires
write-requires c =
    let p = c.requires in
    let size = c.size-size.ensures in record { walk = p.walk; fits = omega (arith, long-is p.long size.is, c.if-room-all.false) }

pub returns : goal.returns
returns c =
    let a = c.args in
    replies-put (as_trace (meant a.table.now.book) flags a.list.now) a.room.now _ (long-is c.requires.long c.size-size.ensures.is) _ c.if-all-gt-MOST.false c.if-room-all.false c.write.ensures
