use Rattle.sexp.specs.Sexp.{each}
use Rattle.put.specs.Shows.{Lists}
use Rattle.script.specs.Lines as lines
use Rattle.text.proofs.denied.Given as goal

abbrev pub invariant-loop-r : goal.invariant-loop-r
invariant-loop-r l = Lists l.initial.out l.out (each l.r lines.denied)
