use Rattle.std.proofs.Common.{[], arith, drop, get_or, length, length-drop, length-take-le, refl, rules, take, ◌+◌, ◌∙◌, ◌≡◌, ◌≤◌}
use Rattle.lists.specs.Trace.{cut}
use Rattle.book.specs.Held.{meant}
use Rattle.state.proofs.Shape.{arities-few, relation-there, relation-past, relation-few, relation-places}
use Rattle.state.proofs.Rows.{loaded-none, loaded-all, loaded-more, load_row}
use Rattle.state.proofs.State.first.Goals as goal

pub loop-r-init : goal.loop-r-init
loop-r-init c = let a = c.args in (refl, loaded-none (meant a.book.now).arities (drop a.at a.list.now))

pub offset_bounds-rows-r : goal.offset_bounds-rows-r
offset_bounds-rows-r c =
    let k = relation-few _ _ c.args.book.now.accepted c.relations-r-end.ensures c.loop-r-test.true in search rules

pub bounds-rows-r : goal.bounds-rows-r
bounds-rows-r c = relation-few _ _ c.args.book.now.accepted c.relations-r-end.ensures c.loop-r-test.true

pub load-requires : goal.load-requires
load-requires c =
    let z = relation-places _ _ c.args.book.now.accepted c.relations-r-end.ensures c.loop-r-test.true in
    let m = c.arity-many.ensures in
    (omega (arith, m.1), omega (arith, z, m.0, c.requires))

pub overflow_add-p : goal.overflow_add-p
overflow_add-p c =
    let z = relation-places _ _ c.args.book.now.accepted c.relations-r-end.ensures c.loop-r-test.true in
    record { fits = omega (arith, z, c.arity-many.ensures.0, c.requires) }

pub loop-r-preserved : goal.loop-r-preserved
loop-r-preserved c =
    let a = c.args in
    let good = a.book.now.accepted in
    let ns = (meant a.book.now).arities in
    let l = drop a.at a.list.now in
    let t = c.loop-r in
    let m = c.arity-many in
    let z = relation-places _ _ good c.relations-r-end.ensures c.loop-r-test.true in
    let below = relation-there _ _ good c.relations-r-end.ensures c.loop-r-test.true in
    let fits : t.p + m.result ≤ length a.list.now = omega (arith, z, m.ensures.0, c.requires) in
    let v = take m.result (drop t.p a.list.now) in
    let long : length v ≡ m.result = length-take-le m.result (drop t.p a.list.now) (rw length-drop (omega arith)) in
    let is : v ≡ get_or (cut ns l) t.r [] = rw m.ensures.0 (load_row ns l a.list.now a.at t.p t.r refl t.invariant.0 below) in (
      omega (arith, z, m.ensures.0),
      rw (c.load.ensures, t.invariant.1) (loaded-more ns l t.r below (arities-few _ _ good) v is (omega (arith, m.ensures.1))),
    )

pub returns-clause-rows : goal.returns-clause-rows
returns-clause-rows c =
    let a = c.args in
    let t = c.loop-r in
    t.invariant.1 ∙ loaded-all (meant a.book.now).arities (drop a.at a.list.now) t.r (relation-past _ _ a.book.now.accepted c.relations-r-end.ensures c.loop-r-test.false)
