use Rattle.std.proofs.Common.{◌≡◌, ◌+◌, ◌-◌}
use Rattle.model.specs.Reply.{clause_answer}
use Rattle.model.proofs.Trying.{Padded, due}
use Rattle.model.proofs.try_clause.Given as goal

-- what is due from here is what was due in all
abbrev pub invariant-loop-i : goal.invariant-loop-i
invariant-loop-i l =
    Padded l.t.clause.variables l.values × (due l.t (l.count - l.i) l.values (l.before + l.i) ≡ clause_answer l.t.model l.t.number l.before)
