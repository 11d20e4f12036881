use Rattle.std.proofs.Common.{arith, ◌*◌}
use Rattle.steps.proofs.Places.{walk_from}
use Rattle.back.proofs.Laws.{block_start, block-placed, placed-rest, placed-here, placed-due, placed-more, gone_at}
use Rattle.back.proofs.Trace.block_back.Goals as goal

pub fill-n-requires : goal.fill-n-requires
fill-n-requires c = let a = c.args in rw c.requires.m_bound.1 (walk_from _ _ _ _ a.self.now.traced.walk (a.m * 512))

pub loop-start-init : goal.loop-start-init
loop-start-init c =
    let a = c.args in
    let t = a.self.now.traced in
    let e = c.requires.m_bound.1 in
    let f = c.fill-n.ensures in
    rw (c.into_iter-start-iterator.ensures.into_iter_gives, c.rev-start-items.ensures.source, c.iter.ensures.rest)
    (block-placed t a.m _ _ _ e f, block_start t a.m _ _ _ e f a.wanted a.room.now c.requires.left)

pub step_back-w-requires-clause-here : goal.step_back-w-requires-clause-here
step_back-w-requires-clause-here c = placed-here c.args.self.now.traced _ _ _ _ c.loop-start.invariant.0 c.in-Some.ensures.steps

pub step_back-w-requires-clause-due : goal.step_back-w-requires-clause-due
step_back-w-requires-clause-due c = placed-due c.args.self.now.traced _ _ _ _ c.loop-start.invariant.0 c.in-Some.ensures.steps c.loop-start.invariant.1.left

pub loop-start-preserved : goal.loop-start-preserved
loop-start-preserved c =
    let t = c.args.self.now.traced in
    let (p, g) = c.loop-start.invariant in
    let e = c.in-Some.ensures.steps in
    (placed-rest t _ _ _ _ p e, placed-more t _ _ _ _ p e g c.step_back-w.ensures)

pub returns : goal.returns
returns c = gone_at c.loop-start.invariant.1 (omega (arith, c.in-None.ensures.steps.0))
