use Rattle.std.proofs.Common.{length, take, ◌≡◌, ◌≤◌}
use Rattle.instance.specs.Values.{values_at}
use Rattle.state.specs.State.{over}
use Rattle.state.proofs.fill.Given as goal

abbrev pub invariant-loop-j : goal.invariant-loop-j
invariant-loop-j l = (l.j ≤ l.n) × (length l.row ≡ length l.initial.row) × (l.row ≡ over (take l.j (values_at l.book l.list l.p l.from l.n)) l.initial.row)
