use Rattle.book.specs.Laid.{standing}
use Rattle.book.specs.Trailer.{Trailed, read-trailed}
use Rattle.book.proofs.Good.{good-entry}
use Rattle.book.proofs.record.Goals.{Start}
use Rattle.book.proofs.record.Goals as goal

known : (c : Start) → Trailed c.args.book.now c.args.h
known c = read-trailed _ _ c.requires.accepted

pub entry-c-requires : goal.entry-c-requires
entry-c-requires c = good-entry _ _ (known (goal.at.entry-c-requires c).Start) _ c.requires.k_lt_count

pub laid-requires : goal.laid-requires
laid-requires c = search standing

pub returns : goal.returns
returns c = search standing
