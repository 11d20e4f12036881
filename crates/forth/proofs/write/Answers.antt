use Rattle.std.proofs.Common.{refl, length-set, rules, ◌∙◌}
use Rattle.lists.specs.Places.{trace-due-all}
use Rattle.state.specs.Laws as state
use Rattle.forth.proofs.Left.{front-fits, puts-join, put-back}
use Rattle.forth.proofs.Going.{low-first, first-state-fits, going-first, going-all, step-here, step-below, step_room, numbers-room, numbers-fits, state-fits, going-more}
use Rattle.forth.proofs.write.Goals as goal

pub state-requires : goal.state-requires
state-requires c = rw (low-first _ _ c.args.table.now.book.accepted _ c.low_state-state.ensures) (first-state-fits _ _ _ (front-fits refl c.requires.fits))

pub loop-i-init : goal.loop-i-init
loop-i-init c =
    let w = c.low_state-state.ensures in
    let low = low-first _ _ c.args.table.now.book.accepted _ w in
    (rw low (going-first (front-fits refl c.requires.fits) (rw low at c.state.ensures)), rw w.0, rw w.1)

pub number_in-k-requires : goal.number_in-k-requires
number_in-k-requires c =
    let t = c.loop-i in
    (c.loop-i-test.true, (step-here _ _ c.args.table.now.book.accepted c.requires.walk t.state t.invariant.0 c.loop-i-test.true).there)

pub row-requires : goal.row-requires
row-requires c =
    let t = c.loop-i in
    step-below _ _ c.args.table.now.book.accepted c.requires.walk t.state t.invariant.0 c.loop-i-test.true c.number_in-k.ensures

pub put-requires : goal.put-requires
put-requires c =
    let t = c.loop-i in
    let good = c.args.table.now.book.accepted in (
      step-below _ _ good c.requires.walk t.state t.invariant.0 c.loop-i-test.true c.number_in-k.ensures,
      step_room _ _ good c.requires.walk t.state t.invariant.0 c.loop-i-test.true c.number_in-k.ensures,
    )

pub slice_bounds-numbers-end : goal.slice_bounds-numbers-end
slice_bounds-numbers-end c =
    let t = c.loop-i in
    let room = numbers-room _ _ c.args.table.now.book.accepted c.requires.walk t.state t.invariant.0 c.loop-i-test.true c.number_in-k.ensures c.row.ensures.says in
    search rules

pub numbers-requires : goal.numbers-requires
numbers-requires c =
    let t = c.loop-i in
    numbers-fits _ _ c.args.table.now.book.accepted c.requires.walk t.state t.invariant.0 c.loop-i-test.true c.number_in-k.ensures c.row.ensures.says
    t.invariant.1 t.invariant.2 c.put.new.self c.put.ensures.flags c.put.ensures.rows

pub state-requires-in-loop-i : goal.state-requires-in-loop-i
state-requires-in-loop-i c =
    let t = c.loop-i in
    state-fits _ _ c.args.table.now.book.accepted c.requires.walk t.state t.invariant.0 c.loop-i-test.true c.number_in-k.ensures c.row.ensures.says
    t.invariant.1 t.invariant.2 c.put.new.self c.put.ensures.flags c.put.ensures.rows c.numbers.ensures

pub loop-i-preserved : goal.loop-i-preserved
loop-i-preserved c =
    let t = c.loop-i in (
      going-more _ _ c.args.table.now.book.accepted c.requires.walk t.state t.invariant.0 c.loop-i-test.true c.number_in-k.ensures c.row.ensures.says
          t.invariant.1 t.invariant.2 c.put.new.self c.put.ensures.flags c.put.ensures.rows c.numbers.ensures c.state-in-loop-i.ensures,
      rw (c.put.ensures.flags, length-set) t.invariant.1,
      rw c.put.ensures.rows (state.put-length _ t.state.rows ∙ t.invariant.2),
    )

pub returns : goal.returns
returns c =
    let low = low-first _ _ c.args.table.now.book.accepted _ c.low_state-state.ensures in
    rw (trace-due-all _ _ _) (put-back (puts-join (rw low at c.state.ensures) (going-all c.loop-i.invariant.0 c.loop-i-test.false)) (search rules))
