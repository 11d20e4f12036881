use Rattle.std.proofs.Common.{arith, drop, length, length-drop, length-take-le, take, ◌+◌, ◌-◌, ◌≡◌}
use Rattle.state.specs.State.{over}
use Rattle.state.proofs.load.Goals as goal

pub returns : goal.returns
unfolding over
returns c =
    let a = c.args in
    let n : length (take a.n (drop a.at a.list.now)) ≡ a.n = length-take-le a.n (drop a.at a.list.now) (rw length-drop (omega arith)) in
    let m : a.at + a.n - a.at ≡ a.n = omega arith in
    rw (n, c.copy_from_slice.ensures.after, m)
