use Rattle.std.proofs.Common.{arith, refl, rules, ◌≡◌}
use Rattle.models.specs.Odometer.{lows}
use Rattle.odometer.proofs.Turns.{lows-more}
use Rattle.odometer.proofs.Odometer.first.Goals as goal

pub loop-i-init : goal.loop-i-init
unfolding lows
loop-i-init c = refl

pub loop-i-preserved : goal.loop-i-preserved
loop-i-preserved c = lows-more _ _ _ c.loop-i.invariant c.variable_window.ensures (search rules) refl

pub returns : goal.returns
returns c = let e : c.loop-i.i ≡ c.args.self.now.many = omega arith in rw e at c.loop-i.invariant
