use Rattle.std.proofs.Common.{◌≡◌, ◌-◌, ◌+◌, ◌*◌, ◌≤◌}
use Rattle.book.specs.Read.{clauses_at}
use Rattle.book.proofs.clauses.Given as goal

-- what is due from here is what was due in all
abbrev pub invariant-loop-k : goal.invariant-loop-k
invariant-loop-k l =
    (l.k ≤ l.count) × (clauses_at (l.count - l.k) l.book l.start l.n (l.p + l.k * 2) l.here ≡ clauses_at l.count l.book l.start l.n l.p l.fn.c)
