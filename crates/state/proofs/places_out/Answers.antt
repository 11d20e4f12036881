use Rattle.std.proofs.Common.{arith, length, refl, sym, ◌+◌, ◌∙◌, ◌≤◌}
use Rattle.meaning.specs.Book.{place_window}
use Rattle.book.specs.Held.{meant}
use Rattle.state.proofs.Shape.{relation-there, relation-past, relation-places}
use Rattle.state.proofs.Rows.{rows_none, rows-stop, rows_on}
use Rattle.state.proofs.places_out.Goals.{After-arity-many}
use Rattle.state.proofs.places_out.Goals as goal

pub loop-r-init : goal.loop-r-init
loop-r-init c = (c.requires, refl)

-- the places of the relation that the loop is at are in the list
fits : (c : After-arity-many) → c.loop-r.p + c.arity-many.result ≤ length c.args.list.now
fits c =
    let z = relation-places _ _ c.args.book.now.accepted c.relations-r-end.ensures c.loop-r-test.true in
    omega (arith, z, c.arity-many.ensures.0)

pub row_out-o-requires : goal.row_out-o-requires
row_out-o-requires c = fits (goal.at.row_out-o-requires c).After-arity-many

pub overflow_add-p : goal.overflow_add-p
overflow_add-p c = record { fits = omega (arith, fits (goal.at.overflow_add-p c).After-arity-many) }

pub returns-then-o-p : goal.returns-then-o-p
returns-then-o-p c =
    let a = c.args in
    let t = c.loop-r in
    let below = relation-there _ _ a.book.now.accepted c.relations-r-end.ensures c.loop-r-test.true in
    sym (rows-stop (place_window (meant a.book.now)) (meant a.book.now).arities a.list.now t.r t.p below c.arity-many.ensures.0
    (fits (goal.at.returns-then-o-p c).After-arity-many) c.row_out-o.ensures c.if-o-p.true)
    ∙ t.invariant.1

pub overflow_add-p-in-loop-r : goal.overflow_add-p-in-loop-r
overflow_add-p-in-loop-r c = record { fits = omega (arith, fits (goal.at.overflow_add-p-in-loop-r c).After-arity-many) }

pub loop-r-preserved : goal.loop-r-preserved
loop-r-preserved c =
    let a = c.args in
    let t = c.loop-r in
    let m = c.arity-many.ensures.0 in
    let below = relation-there _ _ a.book.now.accepted c.relations-r-end.ensures c.loop-r-test.true in
    let z = relation-places _ _ a.book.now.accepted c.relations-r-end.ensures c.loop-r-test.true in (
      omega (arith, z, m),
      sym (rows_on (place_window (meant a.book.now)) (meant a.book.now).arities a.list.now t.r t.p below m
          (fits (goal.at.loop-r-preserved c).After-arity-many) c.row_out-o.ensures c.if-o-p.false)
          ∙ t.invariant.1,
    )

pub returns : goal.returns
returns c =
    let a = c.args in
    let t = c.loop-r in
    sym (rows_none (place_window (meant a.book.now)) (meant a.book.now).arities a.list.now t.r t.p
    (relation-past _ _ a.book.now.accepted c.relations-r-end.ensures c.loop-r-test.false))
    ∙ t.invariant.1
