use Rattle.std.proofs.Common.{arith, refl}
use Rattle.state.proofs.Shape.{relations-few, size_is}
use Rattle.trace.proofs.First.{first_short, first-set, first-outside, first_good}
use Rattle.trace.proofs.Claim.judged_first.Goals as goal

pub returns-then-self : goal.returns-then-self
returns-then-self c =
    let t = c.args.self.now in
    first_short _ _ t.list.now t.size t.table.now.book.accepted t.sized c.if-self.true c.refuse.ensures

pub flags_differ-set-requires : goal.flags_differ-set-requires
flags_differ-set-requires c =
    let t = c.args.self.now in
    let good = t.table.now.book.accepted in
    let n = c.relations-n.ensures in
    (omega (arith, n, relations-few _ _ good), omega (arith, n, t.sized.is, size_is _ _ good))

pub returns-then-set-n : goal.returns-then-set-n
returns-then-set-n c =
    let t = c.args.self.now in
    first-set _ _ t.list.now t.size t.table.now.book.accepted t.sized c.relations-n.result c.relations-n.ensures c.if-self.false
    c.flags_differ-set.ensures c.if-set-n.true c.refuse-then-set-n.ensures

pub places_out-out-requires : goal.places_out-out-requires
places_out-out-requires c =
    let t = c.args.self.now in omega (arith, c.relations-n.ensures, t.sized.is, size_is _ _ t.table.now.book.accepted)

pub returns-then-out-self : goal.returns-then-out-self
returns-then-out-self c =
    let t = c.args.self.now in
    first-outside _ _ t.list.now t.size t.table.now.book.accepted t.sized c.relations-n.result c.relations-n.ensures c.if-self.false
    c.flags_differ-set.ensures c.if-set-n.false c.places_out-out.ensures c.if-out-self.true c.refuse-then-out-self.ensures

pub returns-else-out-self : goal.returns-else-out-self
returns-else-out-self c =
    let t = c.args.self.now in
    first_good _ _ t.list.now t.size t.table.now.book.accepted t.sized c.relations-n.result c.relations-n.ensures c.if-self.false
    c.flags_differ-set.ensures c.if-set-n.false c.places_out-out.ensures c.if-out-self.false refl
