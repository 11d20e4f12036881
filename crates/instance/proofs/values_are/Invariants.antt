use Rattle.std.proofs.Common.{drop, length, take, ◌≡◌, ◌≤◌}
use Rattle.lists.specs.Compare.{eq_vals}
use Rattle.instance.specs.Values.{values_at, Valued}
use Rattle.instance.proofs.values_are.Given as goal

abbrev pub invariant-loop-j : goal.invariant-loop-j
invariant-loop-j l =
    (l.j ≤ l.n) × Valued l.book (length l.list) l.p l.from l.n × (l.n ≤ length l.values)
    × (eq_vals (drop l.j (values_at l.book l.list l.p l.from l.n)) (drop l.j (take l.n l.values)) ≡ eq_vals (values_at l.book l.list l.p l.from l.n) (take l.n l.values))
