use Rattle.sexp.specs.Sexp.{each}
use Rattle.put.specs.Shows.{Lists}
use Rattle.text.proofs.Laws.{limits_at}
use Rattle.text.proofs.limits_of.Given as goal

abbrev pub invariant-loop-i : goal.invariant-loop-i
invariant-loop-i l = Lists l.initial.out l.out (each l.i (limits_at l.book l.r))
