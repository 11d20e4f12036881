use Rattle.std.proofs.Common.{sym}
use Rattle.book.specs.Trailer.{Trailed, read-trailed}
use Rattle.book.proofs.Good.{good-room, good-entry}
use Rattle.book.proofs.constraint_span.Goals as goal
use Rattle.book.proofs.constraint_span.Goals.{In-Ok}

known : (c : In-Ok) → Trailed c.args.book.now c.in-Ok.h
known c = read-trailed _ _ (sym c.in-Ok.ensures.is)

pub entry-requires : goal.entry-requires
entry-requires c = good-entry _ _ (known (goal.at.entry-requires c).In-Ok) _ c.if-k-h.true

pub span_at-requires : goal.span_at-requires
span_at-requires c =
    let w = known (goal.at.span_at-requires c).In-Ok in
    record { n_le_start = w.kept.room; start_in_bounds = good-room _ _ w }
