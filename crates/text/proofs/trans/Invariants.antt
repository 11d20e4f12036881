use Rattle.sexp.specs.Sexp.{each}
use Rattle.put.specs.Shows.{Lists}
use Rattle.text.proofs.Laws.{part_at}
use Rattle.text.proofs.trans.Given as goal

abbrev pub invariant-loop-k : goal.invariant-loop-k
invariant-loop-k l = Lists l.initial.out l.out (each l.k (part_at l.book))
