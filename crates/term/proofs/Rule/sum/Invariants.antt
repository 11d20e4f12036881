use Rattle.sexp.specs.Sexp.{each}
use Rattle.put.specs.Shows.{Lists}
use Rattle.term.proofs.Laws.{product_at}
use Rattle.term.proofs.Rule.sum.Given as goal

abbrev pub invariant-loop-i : goal.invariant-loop-i
invariant-loop-i l = Lists l.initial.out l.out (each l.i (product_at l.self.bytes.now l.self.clause l.p))
