use Rattle.sexp.specs.Sexp.{each}
use Rattle.put.specs.Shows.{Lines}
use Rattle.script.specs.Lines as lines
use Rattle.part.proofs.Laws.{by_arity}
use Rattle.text.proofs.relations.Given as goal

abbrev pub invariant-loop-r : goal.invariant-loop-r
invariant-loop-r l = Lines l.initial.out l.out (each l.r (by_arity l.book lines.relation_lines))
