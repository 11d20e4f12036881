use Rattle.std.proofs.Common.{sym}
use lib.Seq.{length-take-le}
use Rattle.text.specs.Calls.{print-fair}
use Rattle.console.proofs.Laws.{wrote-within}
use Rattle.vmt.proofs.run.Goals as goal

pub slice_bounds-write_all-end : goal.slice_bounds-write_all-end
slice_bounds-write_all-end g c = wrote-within (print-fair _ _) c.in-Ok.ensures

pub slice_bounds-write_all-end-in-Ok : goal.slice_bounds-write_all-end-in-Ok
slice_bounds-write_all-end-in-Ok g c = sym (length-take-le _ _ (wrote-within (print-fair _ _) c.in-Ok.ensures))
