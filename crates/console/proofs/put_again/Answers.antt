use Rattle.std.proofs.Common.{rules, arith, ◌+◌, ◌-◌}
use Rattle.console.proofs.Laws.{again-more, again-done}
use Rattle.console.proofs.put_again.Goals as goal

pub loop-i-preserved : goal.loop-i-preserved
loop-i-preserved c =
    let a = c.args in
    let t = c.loop-i in
    again-more (a.at + a.more - t.i) _ a.count t.i t.room t.invariant (omega arith) (search rules)

pub returns : goal.returns
returns c =
    let a = c.args in
    let t = c.loop-i in
    (again-done (a.at + a.more - t.i) a.count t.i t.room t.invariant (λ h. omega arith), omega arith)
