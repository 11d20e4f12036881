use Rattle.std.proofs.Common.{arith, drop, length, length-drop, length-set, length-take-le, pos, sym, take, ◌≡◌, ◌∙◌, w32}
use lib.Seq.{get_or-drop, get_or-take}
use Rattle.whole.specs.Whole.{own}
use Rattle.steps.specs.Put.{put-next}
use Rattle.steps.proofs.copy.Goals as goal

pub loop-j-preserved : goal.loop-j-preserved
loop-j-preserved c =
    let a = c.args in
    let t = c.loop-j in
    let rest = drop a.from a.list.now in
    let long : length (take a.n rest) ≡ a.n = length-take-le a.n rest (rw length-drop (omega arith)) in
    let x = sym (get_or-take a.n rest t.j (pos 0) (omega arith) ∙ get_or-drop a.from a.list.now t.j (pos 0)) in
    (rw length-set t.invariant.0, rw (own w32 _ c.room-1.given, x) (put-next a.at t.j (take a.n rest) (pos 0) t.invariant.1 (omega (arith, long)) (omega (arith, long))))
