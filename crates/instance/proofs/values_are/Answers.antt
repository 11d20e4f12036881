use Rattle.std.proofs.Common.{arith, get_or-take, length-take-le, pos, refl, sym, ◌∙◌}
use Rattle.instance.proofs.Laws.{vals-done, vals-differ, vals-same, values_length, spot-there, spot-inside, spot-value, same-as}
use Rattle.instance.proofs.values_are.Goals as goal

pub loop-j-init : goal.loop-j-init
loop-j-init c = (omega arith, c.requires.0, c.requires.1, refl)

pub spot-requires : goal.spot-requires
spot-requires c =
    let l = c.args.list.now in
    let w = c.loop-j.invariant.1 in
    (spot-there l w _ c.loop-j-test.true, omega (arith, w.each _ c.loop-j-test.true))

pub same_at-requires : goal.same_at-requires
same_at-requires c =
    let l = c.args.list.now in
    let t = c.loop-j.invariant in
    let k = c.loop-j-test.true in
    (spot-inside l t.1 k c.spot.ensures, omega (arith, t.2))

pub loop-j-preserved : goal.loop-j-preserved
loop-j-preserved c =
    let a = c.args in
    let l = a.list.now in
    let t = c.loop-j in
    let k = c.loop-j-test.true in
    let w = t.invariant in
    let q = same-as c.same_at.ensures (spot-value l w.1 k c.spot.ensures) (sym (get_or-take a.n a.values.now t.j (pos 0) k)) in
    (omega arith, w.1, w.2, sym (vals-same _ _ t.j (omega (arith, values_length l w.1)) (omega (arith, length-take-le a.n a.values.now w.2)) q c.if-not-same_at.false) ∙ w.3)

pub returns-then-not-same_at : goal.returns-then-not-same_at
returns-then-not-same_at c =
    let a = c.args in
    let l = a.list.now in
    let t = c.loop-j in
    let k = c.loop-j-test.true in
    let w = t.invariant in
    let q = same-as c.same_at.ensures (spot-value l w.1 k c.spot.ensures) (sym (get_or-take a.n a.values.now t.j (pos 0) k)) in
    sym (vals-differ _ _ t.j (omega (arith, values_length l w.1)) (omega (arith, length-take-le a.n a.values.now w.2)) q c.if-not-same_at.true) ∙ w.3

pub returns : goal.returns
returns c =
    let a = c.args in
    let t = c.loop-j in
    let w = t.invariant in
    let n = values_length a.list.now w.1 in
    sym (vals-done _ _ t.j (n ∙ sym (length-take-le a.n a.values.now w.2)) (omega (arith, n))) ∙ w.3
