use Rattle.model.proofs.Clauses.{Due}
use Rattle.model.proofs.try_all.Given as goal

abbrev pub invariant-loop-k : goal.invariant-loop-k
invariant-loop-k l = Due l.m l.seen l.k
