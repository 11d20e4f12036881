use Rattle.std.proofs.Common.{◌≡◌, ◌-◌, ◌≤◌}
use Rattle.cursor.specs.Clause.{arguments_at}
use Rattle.cursor.proofs.Cursor.arguments.Given as goal

-- what is due from here is what was due in all
abbrev pub invariant-loop : goal.invariant-loop
invariant-loop l = (l.counter ≤ l.count) × (arguments_at (l.count - l.counter) l.s l.v l.c ≡ arguments_at l.count l.s l.v l.fn.self)
