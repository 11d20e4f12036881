use Rattle.std.proofs.Common.{arith, length-set, refl, rules}
use Rattle.parts.proofs.Places.{places-none, places-more}
use Rattle.parts.proofs.gather.Goals as goal

pub loop-k-init : goal.loop-k-init
loop-k-init c = (refl, places-none _ _ _)

pub loop-k-preserved : goal.loop-k-preserved
loop-k-preserved c =
    let t = c.loop-k in
    let a = c.args in (
      simp length-set t.invariant.0,
      places-more a.s.now a.seat t.k a.values.now t.places refl t.invariant.1 (omega arith) (omega (arith, c.requires.1.within)) (search rules),
    )
