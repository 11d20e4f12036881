use Rattle.std.proofs.Common.{drop, length, ◌≡◌, ◌≤◌}
use Rattle.lists.specs.Compare.{eq_vals}
use Rattle.instance.specs.Values.{values_at, Valued}
use Rattle.instance.proofs.same_values.Given as goal

abbrev pub invariant-loop-j : goal.invariant-loop-j
invariant-loop-j l =
    (l.j ≤ l.n) × Valued l.book (length l.list) l.p l.from l.n × Valued l.book (length l.list) l.q l.since l.n
    × (eq_vals (drop l.j (values_at l.book l.list l.p l.from l.n)) (drop l.j (values_at l.book l.list l.q l.since l.n)) ≡ eq_vals (values_at l.book l.list l.p l.from l.n) (values_at l.book l.list l.q l.since l.n))
