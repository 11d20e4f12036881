use Rattle.meaning.specs.Book.{place_window}
use Rattle.book.specs.Held.{meant}
use Rattle.sexp.specs.Sexp.{each}
use Rattle.put.specs.Shows.{Lists}
use Rattle.script.specs.Lines as lines
use Rattle.part.proofs.Laws.{by_arity}
use Rattle.text.proofs.place_limits.Given as goal

abbrev pub invariant-loop-r : goal.invariant-loop-r
invariant-loop-r l = Lists l.initial.out l.out (each l.r (by_arity l.book (lines.place_limits (place_window (meant l.book)))))
