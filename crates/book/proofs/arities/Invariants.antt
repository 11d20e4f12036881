use Rattle.std.proofs.Common.{◌≡◌, ◌-◌, ◌≤◌}
use Rattle.book.specs.Read.{arities_at}
use Rattle.book.proofs.arities.Given as goal

-- what is due from here is what was due in all
abbrev pub invariant-loop : goal.invariant-loop
invariant-loop l = (l.counter ≤ l.count) × (arities_at (l.count - l.counter) l.s l.q l.here ≡ arities_at l.count l.s l.q l.fn.c)
