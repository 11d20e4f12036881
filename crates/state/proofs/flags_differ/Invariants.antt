use Rattle.std.proofs.Common.{drop, false, map, ◌+◌, ◌≡◌, ◌≤◌}
use Rattle.meaning.specs.State.{bit}
use Rattle.lists.specs.Compare.{first_diff}
use Rattle.state.specs.State.{front}
use Rattle.state.proofs.flags_differ.Given as goal

abbrev pub invariant-loop-j : goal.invariant-loop-j
invariant-loop-j l =
    (l.j ≤ l.n) × (first_diff (l.at + l.j) (drop (l.at + l.j) l.list) (drop l.j (map bit (front false l.n l.flags))) ≡ first_diff l.at (drop l.at l.list) (map bit (front false l.n l.flags)))
