use Rattle.std.proofs.Common.{ap, arith, drop, length, length-drop, length-take-le, sym, take, ◌+◌, ◌∙◌, ◌≡◌}
use Rattle.instance.proofs.Laws.{inside-none, inside-more, out-all, out_first, window-inside}
use Rattle.state.proofs.row_out.Goals as goal

pub loop-j-init : goal.loop-j-init
loop-j-init c = (omega arith, c.requires, inside-none _ _)

pub loop-j-preserved : goal.loop-j-preserved
loop-j-preserved c =
    let t = c.loop-j in
    let a = c.args in (
      omega arith,
      t.invariant.1,
      inside-more _ _ t.j t.invariant.2 (window-inside a.list.now a.at a.n t.j _ _ (omega arith) c.place_window.ensures c.inside_at.ensures c.if-not-inside_at.false),
    )

pub returns-then-not-inside_at : goal.returns-then-not-inside_at
returns-then-not-inside_at c =
    let t = c.loop-j in
    let a = c.args in
    sym (out_first _ a.at (take a.n (drop a.at a.list.now)) t.j
    (rw (length-take-le a.n (drop a.at a.list.now) (rw length-drop (omega (arith, t.invariant.1)))) (omega arith))
    t.invariant.2
    (window-inside a.list.now a.at a.n t.j _ _ (omega arith) c.place_window.ensures c.inside_at.ensures c.if-not-inside_at.true))

pub returns : goal.returns
returns c =
    let t = c.loop-j in
    let a = c.args in
    let m : length (take a.n (drop a.at a.list.now)) ≡ a.n = length-take-le a.n (drop a.at a.list.now) (rw length-drop (omega (arith, t.invariant.1))) in
    let e : t.j ≡ a.n = omega (arith, t.invariant.0) in
    ap (λ i. a.at + i) (sym m) ∙ sym (out-all _ a.at _ (rw m (rw e at t.invariant.2)))
