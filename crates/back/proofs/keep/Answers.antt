use Rattle.std.proofs.Common.{arith, ◌/◌}
use Rattle.back.proofs.Laws.{kept_here, kept-not}
use Rattle.back.proofs.keep.Goals as goal

pub returns-then-k-eq0 : goal.returns-then-k-eq0
returns-then-k-eq0 c =
    let a = c.args in
    kept_here a.marks.now a.k a.i (a.k / 512) c.told-marks (omega (arith, c.if-k-eq0.true)) (omega (arith, c.requires.0))

pub returns-else-k-eq0 : goal.returns-else-k-eq0
returns-else-k-eq0 c =
    let a = c.args in
    kept-not a.marks.now a.k a.i c.told-marks (λ q y. let z : ⊥ = omega (arith, c.if-k-eq0.false) in z)
