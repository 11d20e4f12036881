use Rattle.std.proofs.Common.{arith, refl}
use Rattle.state.specs.Laws.{bits-length}
use Rattle.state.proofs.Shape.{relations-few, size_is}
use Rattle.state.proofs.Difference.{parts-stop, parts-on}
use Rattle.state.proofs.Laws.{numbers-are}
use Rattle.state.proofs.State.differs.Goals as goal

pub flags_differ-d-requires : goal.flags_differ-d-requires
flags_differ-d-requires c =
    let good = c.args.book.now.accepted in
    let n = c.relations-n.ensures in
    (omega (arith, n, relations-few _ _ good), omega (arith, n, size_is _ _ good))

pub overflow_add-at : goal.overflow_add-at
overflow_add-at c = record { fits = omega (arith, c.relations-n.ensures, relations-few _ _ c.args.book.now.accepted, c.well_formed) }

pub returns-then-d-at : goal.returns-then-d-at
returns-then-d-at c =
    let a = c.args in
    let good = a.book.now.accepted in
    let n = c.relations-n in
    rw (numbers-are _ _ a.self.now.flags a.self.now.rows n.result good n.ensures)
    (parts-stop a.list.now a.at _ _ n.result c.flags_differ-d.ensures (bits-length n.result a.self.now.flags)
    (omega (arith, n.ensures, size_is _ _ good)) c.if-d-at.true refl)

pub places_differ-requires : goal.places_differ-requires
places_differ-requires c = omega (arith, c.relations-n.ensures, size_is _ _ c.args.book.now.accepted)

pub returns : goal.returns
returns c =
    let a = c.args in
    let good = a.book.now.accepted in
    let n = c.relations-n in
    rw (numbers-are _ _ a.self.now.flags a.self.now.rows n.result good n.ensures)
    (parts-on a.list.now a.at _ _ n.result c.flags_differ-d.ensures (bits-length n.result a.self.now.flags)
    (omega (arith, n.ensures, size_is _ _ good)) c.if-d-at.false c.places_differ.ensures)
