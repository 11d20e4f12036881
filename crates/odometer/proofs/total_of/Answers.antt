use Rattle.odometer.proofs.Totals.{total-none, total-more, total-all}
use Rattle.odometer.proofs.total_of.Goals as goal

pub loop-k-init : goal.loop-k-init
loop-k-init c = total-none _

pub loop-k-preserved : goal.loop-k-preserved
loop-k-preserved c = search total-more

pub returns : goal.returns
returns c = search total-all
