use Rattle.std.proofs.Common.{drop}
use Rattle.lists.specs.Trace.{flat}
use Rattle.book.specs.Held.{meant}
use Rattle.state.specs.State.{rows_of}
use Rattle.forth.proofs.Left.{Left}
use Rattle.forth.proofs.Writer.places.Given as goal

abbrev pub invariant-loop-r : goal.invariant-loop-r
invariant-loop-r l =
    let ns = (meant l.book).arities in
    Left l.initial.self l.self (flat (rows_of ns l.state.rows)) (flat (rows_of (drop l.r ns) (drop l.r l.state.rows)))
