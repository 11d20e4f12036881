use Rattle.std.proofs.Common.{arith, refl, sym, ◌∙◌}
use Rattle.instance.proofs.Laws.{vals-done, vals-differ, vals-same, values_length, spot-there, spot-inside, spot-value, same-as}
use Rattle.instance.proofs.same_values.Goals as goal

pub loop-j-init : goal.loop-j-init
loop-j-init c = (omega arith, c.requires.0, c.requires.1, refl)

pub spot-one-requires : goal.spot-one-requires
spot-one-requires c =
    let l = c.args.list.now in
    let w = c.loop-j.invariant.1 in
    (spot-there l w _ c.loop-j-test.true, omega (arith, w.each _ c.loop-j-test.true))

pub spot-other-requires : goal.spot-other-requires
spot-other-requires c =
    let l = c.args.list.now in
    let w = c.loop-j.invariant.2 in
    (spot-there l w _ c.loop-j-test.true, omega (arith, w.each _ c.loop-j-test.true))

pub same_at-requires : goal.same_at-requires
same_at-requires c =
    let l = c.args.list.now in
    let t = c.loop-j.invariant in
    let k = c.loop-j-test.true in
    (spot-inside l t.1 k c.spot-one.ensures, spot-inside l t.2 k c.spot-other.ensures)

pub loop-j-preserved : goal.loop-j-preserved
loop-j-preserved c =
    let l = c.args.list.now in
    let t = c.loop-j in
    let k = c.loop-j-test.true in
    let w = t.invariant in
    let q = same-as c.same_at.ensures (spot-value l w.1 k c.spot-one.ensures) (spot-value l w.2 k c.spot-other.ensures) in
    (omega arith, w.1, w.2, sym (vals-same _ _ t.j (omega (arith, values_length l w.1)) (omega (arith, values_length l w.2)) q c.if-not-same_at.false) ∙ w.3)

pub returns-then-not-same_at : goal.returns-then-not-same_at
returns-then-not-same_at c =
    let l = c.args.list.now in
    let t = c.loop-j in
    let k = c.loop-j-test.true in
    let w = t.invariant in
    let q = same-as c.same_at.ensures (spot-value l w.1 k c.spot-one.ensures) (spot-value l w.2 k c.spot-other.ensures) in
    sym (vals-differ _ _ t.j (omega (arith, values_length l w.1)) (omega (arith, values_length l w.2)) q c.if-not-same_at.true) ∙ w.3

pub returns : goal.returns
returns c =
    let l = c.args.list.now in
    let t = c.loop-j in
    let w = t.invariant in
    let n = values_length l w.1 in
    sym (vals-done _ _ t.j (n ∙ sym (values_length l w.2)) (omega (arith, n))) ∙ w.3
