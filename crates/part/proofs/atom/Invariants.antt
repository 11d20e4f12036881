use Rattle.sexp.specs.Sexp.{each}
use Rattle.put.specs.Shows.{Lists}
use Rattle.term.specs.Name.{is_after}
use Rattle.part.proofs.Laws.{argument_in}
use Rattle.part.proofs.atom.Given as goal

abbrev pub invariant-loop-i : goal.invariant-loop-i
invariant-loop-i l = Lists l.initial.out l.out (each l.i (argument_in (is_after l.when) l.k l.r l.arguments))
