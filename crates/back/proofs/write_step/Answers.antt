use Rattle.std.proofs.Common.{arith, drop, length, length-drop, length-take-le, take, ◌≡◌}
use Rattle.back.proofs.Laws.{wrote-put}
use Rattle.back.proofs.write_step.Goals as goal

pub returns : goal.returns
returns c =
    let a = c.args in
    let z : length (take a.n (drop a.i a.list.now)) ≡ a.n = length-take-le a.n (drop a.i a.list.now) (rw length-drop (omega arith)) in
    wrote-put a.room.now _ (take a.n (drop a.i a.list.now)) a.at a.n c.requires.0 z c.copy.ensures
