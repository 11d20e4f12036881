use Rattle.std.proofs.Common.{arith}
use Rattle.truth.proofs.Rows.{Room, row-none, room, passing-open}
use Rattle.truth.proofs.end.Goals.{In-loop-n}
use Rattle.truth.proofs.end.Goals as goal

pub loop-n-init : goal.loop-n-init
loop-n-init c = record { each = λ r. r }

here : (c : In-loop-n) → Room c.args.s.now c.args.v c.loop-n.n c.loop-n.at
here c = room c.requires.1 c.loop-n.invariant c.loop-n-test.true

pub loop-n-preserved : goal.loop-n-preserved
loop-n-preserved c = passing-open c.loop-n.invariant c.loop-n-test.true c.parts.ensures c.size-at.ensures

pub returns : goal.returns
returns c = record { is = λ w. row-none (c.loop-n.invariant.each w) (omega arith) }

pub bounds-s-at : goal.bounds-s-at
bounds-s-at c = omega (arith, here (goal.at.bounds-s-at c).In-loop-n)

pub overflow_add-n : goal.overflow_add-n
overflow_add-n c = omega (arith, here (goal.at.overflow_add-n c).In-loop-n)

pub overflow_add-at : goal.overflow_add-at
overflow_add-at c = omega (arith, here (goal.at.overflow_add-at c).In-loop-n)

pub loop-n-smaller : goal.loop-n-smaller
loop-n-smaller c = omega (arith, here (goal.at.loop-n-smaller c).In-loop-n)
