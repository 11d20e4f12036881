use Rattle.std.proofs.Common.{drop, ◌≡◌}
use Rattle.book.specs.Held.{meant}
use Rattle.parts.specs.Task.{scan, scan_at}
use Rattle.parts.proofs.starts_of.Given as goal

-- what is due from here is what was due in all
abbrev pub invariant-loop-k : goal.invariant-loop-k
invariant-loop-k l = scan_at l.model (drop l.k (meant l.book).arities) l.k l.c l.starts ≡ scan l.model (meant l.book).arities
