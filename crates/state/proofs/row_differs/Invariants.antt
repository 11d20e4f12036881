use Rattle.std.proofs.Common.{drop, pos, ◌+◌, ◌≡◌, ◌≤◌}
use Rattle.lists.specs.Compare.{first_diff}
use Rattle.state.specs.State.{front}
use Rattle.state.proofs.row_differs.Given as goal

abbrev pub invariant-loop-j : goal.invariant-loop-j
invariant-loop-j l =
    (l.j ≤ l.n) × (first_diff (l.at + l.j) (drop (l.at + l.j) l.list) (drop l.j (front (pos 0) l.n l.row)) ≡ first_diff l.at (drop l.at l.list) (front (pos 0) l.n l.row))
