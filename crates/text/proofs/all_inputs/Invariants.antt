use Rattle.sexp.specs.Sexp.{each}
use Rattle.put.specs.Shows.{Lines}
use Rattle.text.proofs.Laws.{inputs_at}
use Rattle.text.proofs.all_inputs.Given as goal

abbrev pub invariant-loop-k : goal.invariant-loop-k
invariant-loop-k l = Lines l.initial.out l.out (each l.k (inputs_at l.book))
