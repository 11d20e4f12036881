use Rattle.std.proofs.Common.{rules}
use Rattle.odometer.proofs.Signed.{result_fits}
use Rattle.odometer.proofs.width_of.Goals as goal

pub overflow_cast-result-3 : goal.overflow_cast-result-3
overflow_cast-result-3 c =
    let h = c.args.w in
    result_fits h.lo h.hi (search rules) (search rules) (search rules)
