use Rattle.book.specs.Laid.{head-room, record_is}
use Rattle.book.proofs.laid.Goals as goal

pub past-requires : goal.past-requires
past-requires c = let h = head-room _ _ c.requires c.past-seat.ensures in record { p_in_bounds = h.0; r_in_bounds = h.1 }

pub returns : goal.returns
returns c = record_is _ _ c.past-seat.ensures c.past.ensures
