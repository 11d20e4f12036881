use Rattle.std.proofs.Common.{List, arith, drop, get_or, refl, take, ℤ, ◌<◌}
use Rattle.std.proofs.Math.Bool.{beq}
use Rattle.meaning.specs.Constraint.{holds}
use Rattle.cursor.specs.Meaning.{tree_in}
use Rattle.truth.specs.Stood.{Judged}
use Rattle.truth.proofs.Laws.{size-some}
use Rattle.truth.proofs.Sides.{bits_small}
use Rattle.truth.proofs.Due.{Outcome, waited-alone, waited-fits, outcome-leaf, outcome-done, outcome-row, outcome-grows, outcome-next, part-is, part-long}
use Rattle.truth.proofs.walk.Goals.{After-opened-w}
use Rattle.truth.proofs.walk.Goals as goal

-- ---- two sides

pub overflow_mul-sides : goal.overflow_mul-sides
overflow_mul-sides c = omega (arith, waited-fits c.loop-want.invariant c.joins.ensures c.if-joins.true)

pub overflow_add-sides : goal.overflow_add-sides
overflow_add-sides c =
    let small : c.bits.result < 4 = rw c.bits.ensures (bits_small _ _) in
    omega (arith, waited-fits c.loop-want.invariant c.joins.ensures c.if-joins.true)

-- ---- none below

pub judged-l-requires : goal.judged-l-requires
judged-l-requires c =
    let h = c.requires.v_bound.1 in
    rw (part-is _ _ _ h, part-long _ _ _ h) (omega arith, waited-alone c.loop-want.invariant c.joins.ensures c.if-k.false c.if-joins.false)

-- what the sides that wait answer to it
module _ (c : After-opened-w) where
  abbrev xs : List ℤ
  xs = take c.args.v (drop c.args.from c.args.values.now)

  told : Judged c.args.s.now c.args.v c.loop-want.at (get_or c.args.s.now c.loop-want.at 0) xs c.judged-l.result
  told = let h = c.requires.v_bound.1 in rw (part-is _ _ _ h, part-long _ _ _ h) at c.judged-l.ensures

  out : Outcome c.args.s.now c.args.v xs (holds xs (tree_in c.args.s.now c.args.v c.args.p)) (beq c.loop-want.want c.judged-l.result.met) c.judged-l.result.past c.opened-w.result
  out = outcome-leaf c.loop-want.invariant c.joins.ensures c.if-k.false c.if-joins.false told refl c.opened-w.ensures

  -- it goes on further right
  further : c.loop-want.at < c.judged-l.result.past
  further = omega (arith, told.past, size-some (get_or c.args.s.now c.loop-want.at 0) c.args.v)

pub returns-then-w-lt4 : goal.returns-then-w-lt4
returns-then-w-lt4 c = outcome-done (out (goal.at.returns-then-w-lt4 c).After-opened-w) c.if-w-lt4.true

pub end-at-requires : goal.end-at-requires
end-at-requires c = (omega arith, outcome-row (out (goal.at.end-at-requires c).After-opened-w) c.if-w-lt4.false)

pub loop-want-smaller : goal.loop-want-smaller
loop-want-smaller c =
    let w = (goal.at.loop-want-smaller c).After-opened-w in
    omega (arith, further w, outcome-grows (out w) c.if-w-lt4.false c.end-at.ensures)

pub loop-want-preserved : goal.loop-want-preserved
loop-want-preserved c = outcome-next (out (goal.at.loop-want-preserved c).After-opened-w) c.if-w-lt4.false c.end-at.ensures
