use Rattle.std.proofs.Common.{arith, length, refl, rules, ◌+◌, ◌≤◌}
use Rattle.cursor.proofs.Laws.{via}
use Rattle.book.specs.Held.{meant}
use Rattle.state.proofs.Shape.{relation-there, relation-past, relation-few, relation-places}
use Rattle.state.proofs.Laws.{places-none, places-stop, places-on}
use Rattle.state.proofs.State.places_differ.Goals.{After-arity-many}
use Rattle.state.proofs.State.places_differ.Goals as goal

pub loop-r-init : goal.loop-r-init
loop-r-init c = (c.requires, refl)

-- the places of the relation that the loop is at are in the list
fits : (c : After-arity-many) → c.loop-r.p + c.arity-many.result ≤ length c.args.list.now
fits c =
    let z = relation-places _ _ c.args.book.now.accepted c.relations-r-end.ensures c.loop-r-test.true in
    omega (arith, z, c.arity-many.ensures.0)

pub offset_bounds-self-r : goal.offset_bounds-self-r
offset_bounds-self-r c =
    let k = relation-few _ _ c.args.book.now.accepted c.relations-r-end.ensures c.loop-r-test.true in search rules

pub bounds-self-r : goal.bounds-self-r
bounds-self-r c = relation-few _ _ c.args.book.now.accepted c.relations-r-end.ensures c.loop-r-test.true

pub row_differs-d-requires : goal.row_differs-d-requires
row_differs-d-requires c =
    (omega (arith, c.arity-many.ensures.1), fits (goal.at.row_differs-d-requires c).After-arity-many)

pub overflow_add-p : goal.overflow_add-p
overflow_add-p c = record { fits = omega (arith, fits (goal.at.overflow_add-p c).After-arity-many) }

pub returns-then-d-p : goal.returns-then-d-p
returns-then-d-p c =
    let a = c.args in
    let t = c.loop-r in
    let m = c.arity-many in
    let below = relation-there _ _ a.book.now.accepted c.relations-r-end.ensures c.loop-r-test.true in
    via t.invariant.1
    (places-stop (meant a.book.now).arities t.r a.self.now.rows a.list.now t.p m.result below m.ensures.0
    (fits (goal.at.returns-then-d-p c).After-arity-many) c.row_differs-d.ensures c.if-d-p.true refl)

pub overflow_add-p-in-loop-r : goal.overflow_add-p-in-loop-r
overflow_add-p-in-loop-r c = record { fits = omega (arith, fits (goal.at.overflow_add-p-in-loop-r c).After-arity-many) }

pub loop-r-preserved : goal.loop-r-preserved
loop-r-preserved c =
    let a = c.args in
    let t = c.loop-r in
    let m = c.arity-many in
    let below = relation-there _ _ a.book.now.accepted c.relations-r-end.ensures c.loop-r-test.true in
    let z = relation-places _ _ a.book.now.accepted c.relations-r-end.ensures c.loop-r-test.true in (
      omega (arith, z, m.ensures.0),
      via t.invariant.1
          (places-on (meant a.book.now).arities t.r a.self.now.rows a.list.now t.p m.result below m.ensures.0
          (fits (goal.at.loop-r-preserved c).After-arity-many) c.row_differs-d.ensures c.if-d-p.false refl),
    )

pub returns : goal.returns
returns c =
    let a = c.args in
    let t = c.loop-r in
    via t.invariant.1
    (places-none (meant a.book.now).arities t.r a.self.now.rows a.list.now t.p
    (relation-past _ _ a.book.now.accepted c.relations-r-end.ensures c.loop-r-test.false) refl)
