use Rattle.std.proofs.Common.{arith, ◌*◌, ◌+◌, ◌-◌, ◌≡◌}
use Rattle.back.proofs.Laws.{left-first, all-written, left_at, gone_at, gone-here, gone-join}
use Rattle.back.proofs.Trace.write.Goals as goal

pub loop-m-init : goal.loop-m-init
loop-m-init c = let p = c.requires in gone-here (left-first c.args.self.now.traced _ _ c.args.relation _ _ p.marked p.numbers_value p.fits)

pub block_back-w-requires-clause-left : goal.block_back-w-requires-clause-left
block_back-w-requires-clause-left c = let t = c.loop-m in left_at t.invariant.left (let n : t.m * 512 ≡ (t.m - 1) * 512 + 512 = omega (arith, c.loop-m-test.true) in n)

pub loop-m-preserved : goal.loop-m-preserved
loop-m-preserved c =
    let t = c.loop-m in
    let n : t.m * 512 ≡ (t.m - 1) * 512 + 512 = omega (arith, c.loop-m-test.true) in
    gone-join (gone_at t.invariant n) c.block_back-w.ensures

pub returns : goal.returns
returns c = all-written c.args.self.now.traced _ _ c.args.relation _ _ c.requires.marked c.loop-m.invariant (omega (arith, c.loop-m-test.false))
