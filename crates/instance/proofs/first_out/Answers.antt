use Rattle.std.proofs.Common.{ap, arith, drop, length, length-drop, length-take-le, sym, take, ◌+◌, ◌∙◌, ◌≡◌}
use Rattle.instance.proofs.Laws.{inside-none, inside-more, out-all, out_first, window-inside}
use Rattle.instance.proofs.first_out.Goals as goal

pub loop-j-init : goal.loop-j-init
loop-j-init c = (omega arith, c.requires, inside-none _ _)

pub loop-j-preserved : goal.loop-j-preserved
loop-j-preserved c =
    let t = c.loop-j in
    let a = c.args in (
      omega arith,
      t.invariant.1,
      inside-more _ _ t.j t.invariant.2 (window-inside a.list.now a.from a.v t.j _ _ (omega arith) c.variable_window.ensures c.inside_at.ensures c.if-not-inside_at.false),
    )

pub returns-then-not-inside_at : goal.returns-then-not-inside_at
returns-then-not-inside_at c =
    let t = c.loop-j in
    let a = c.args in
    sym (out_first _ a.from (take a.v (drop a.from a.list.now)) t.j
    (rw (length-take-le a.v (drop a.from a.list.now) (rw length-drop (omega (arith, t.invariant.1)))) (omega arith))
    t.invariant.2
    (window-inside a.list.now a.from a.v t.j _ _ (omega arith) c.variable_window.ensures c.inside_at.ensures c.if-not-inside_at.true))

pub returns : goal.returns
returns c =
    let t = c.loop-j in
    let a = c.args in
    let n : length (take a.v (drop a.from a.list.now)) ≡ a.v = length-take-le a.v (drop a.from a.list.now) (rw length-drop (omega (arith, t.invariant.1))) in
    let e : t.j ≡ a.v = omega (arith, t.invariant.0) in
    ap (λ m. a.from + m) (sym n) ∙ sym (out-all _ a.from _ (rw n (rw e at t.invariant.2)))
