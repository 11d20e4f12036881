use Rattle.sexp.specs.Sexp.{each}
use Rattle.put.specs.Shows.{Lists}
use Rattle.script.specs.Lines as lines
use Rattle.part.proofs.frame.Given as goal

abbrev pub invariant-loop-i : goal.invariant-loop-i
invariant-loop-i l = Lists l.initial.out l.out (each l.i (lines.kept_place l.r))
