use Rattle.std.proofs.Common.{arith, ◌∙◌, ◌≡◌, ◌+◌, ◌-◌}
use Rattle.cursor.proofs.Laws.{via}
use Rattle.parts.proofs.Tasks.{task_few}
use Rattle.model.proofs.Trying.{padded-first, padded-next, due-first, due-broken, due-next, due-none}
use Rattle.model.proofs.try_clause.Goals as goal

pub first-values-requires : goal.first-values-requires
first-values-requires c = task_few c.args.t.now

pub breaks-requires : goal.breaks-requires
breaks-requires c = omega (arith, task_few c.args.t.now, c.loop-i.invariant.0.size)

pub advance-requires : goal.advance-requires
advance-requires c = task_few c.args.t.now

pub loop-i-init : goal.loop-i-init
loop-i-init c =
    let z : c.count-count.result - 0 ≡ c.count-count.result = omega arith in
    let y : c.args.before + 0 ≡ c.args.before = omega arith in
    (padded-first _ _ c.first-values.ensures, rw (z, y) (due-first c.args.t.now _ c.requires.1 c.count-count.ensures c.first-values.ensures))

pub returns-then-breaks : goal.returns-then-breaks
returns-then-breaks c =
    let w = c.loop-i.invariant in
    via w.1 (due-broken c.args.t.now _ _ _ (omega arith) c.breaks.ensures w.0 c.if-breaks.true)

pub loop-i-preserved : goal.loop-i-preserved
loop-i-preserved c =
    let w = c.loop-i.invariant in
    let e : c.count-count.result - (c.loop-i.i + 1) ≡ c.count-count.result - c.loop-i.i - 1 = omega arith in
    let y : c.args.before + (c.loop-i.i + 1) ≡ c.args.before + c.loop-i.i + 1 = omega arith in
    (padded-next _ _ _ c.advance.ensures w.0, rw (e, y) (due-next c.args.t.now _ _ _ (omega arith) c.breaks.ensures c.if-breaks.false c.advance.ensures ∙ w.1))

pub returns : goal.returns
returns c = via c.loop-i.invariant.1 (due-none c.args.t.now _ _ _ (omega arith) (omega arith))
