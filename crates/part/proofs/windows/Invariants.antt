use Rattle.std.proofs.Common.{get_or}
use Rattle.meaning.specs.Book.{none_such, variable_window}
use Rattle.book.specs.Held.{meant}
use Rattle.sexp.specs.Sexp.{each}
use Rattle.put.specs.Shows.{Lists}
use Rattle.script.specs.Lines as lines
use Rattle.part.proofs.windows.Given as goal

abbrev pub invariant-loop-i : goal.invariant-loop-i
invariant-loop-i l = Lists l.initial.out l.out (each l.i (lines.input_limits (variable_window (meant l.book) (get_or (meant l.book).clauses l.k none_such)) l.k))
