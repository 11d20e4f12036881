use Rattle.std.proofs.Common.{arith, length-set, refl, rules, sym, ◌∙◌}
use Rattle.instance.specs.Values.{values_at}
use Rattle.instance.proofs.Laws.{values_length, spot-there, spot-inside, spot-value}
use Rattle.state.proofs.Rows.{over_none, over-all, row_more}
use Rattle.state.proofs.fill.Goals as goal

pub loop-j-init : goal.loop-j-init
loop-j-init c = let a = c.args in (omega arith, refl, sym (over_none (values_at a.book.now a.list.now a.p a.from a.n) a.row.now))

pub spot-requires : goal.spot-requires
spot-requires c =
    let w = c.requires.1 in
    (spot-there c.args.list.now w _ c.loop-j-test.true, omega (arith, w.each _ c.loop-j-test.true))

pub offset_bounds-list-spot : goal.offset_bounds-list-spot
offset_bounds-list-spot c =
    let k = spot-inside c.args.list.now c.requires.1 c.loop-j-test.true c.spot.ensures in
    search rules

pub bounds-list-spot : goal.bounds-list-spot
bounds-list-spot c =
    spot-inside c.args.list.now c.requires.1 c.loop-j-test.true c.spot.ensures

pub loop-j-preserved : goal.loop-j-preserved
loop-j-preserved c =
    let l = c.args.list.now in
    let t = c.loop-j in
    let q = spot-value l c.requires.1 c.loop-j-test.true c.spot.ensures in
    let n = values_length l c.requires.1 in
    (omega arith, rw length-set t.invariant.1, search (row_more, rules))

pub returns : goal.returns
returns c =
    let t = c.loop-j in
    t.invariant.2 ∙ over-all _ _ t.j (omega (arith, values_length c.args.list.now c.requires.1))
