use Rattle.sexp.specs.Sexp.{each}
use Rattle.put.specs.Shows.{Lines}
use Rattle.script.specs.Lines as lines
use Rattle.text.proofs.relation.Given as goal

abbrev pub invariant-loop-i : goal.invariant-loop-i
invariant-loop-i l = Lines l.initial.out l.out (each l.i (lines.place_lines l.r))
