use Rattle.std.proofs.Common.{arith, pos, refl, sym}
use Rattle.cursor.proofs.Laws.{via}
use Rattle.state.specs.Laws.{front_length, front_at}
use Rattle.state.proofs.Difference.{diff-start, diff-none, diff-here, diff-later}
use Rattle.state.proofs.row_differs.Goals as goal

pub loop-j-init : goal.loop-j-init
loop-j-init c = (omega arith, diff-start _ _ _)

pub loop-j-preserved : goal.loop-j-preserved
loop-j-preserved c =
    let a = c.args in
    let t = c.loop-j in
    let n = front_length (pos 0) a.n a.row.now in
    (omega arith, via t.invariant.1 (diff-later a.list.now a.at _ t.j (omega arith) (omega arith) c.same_at.ensures (sym (front_at (pos 0) a.n a.row.now t.j (omega arith))) c.if-not-same_at.false refl))

pub returns-then-not-same_at : goal.returns-then-not-same_at
returns-then-not-same_at c =
    let a = c.args in
    let t = c.loop-j in
    let n = front_length (pos 0) a.n a.row.now in
    via t.invariant.1 (diff-here a.list.now a.at _ t.j (omega arith) (omega arith) c.same_at.ensures (sym (front_at (pos 0) a.n a.row.now t.j (omega arith))) c.if-not-same_at.true refl)

pub returns : goal.returns
returns c =
    let a = c.args in
    let n = front_length (pos 0) a.n a.row.now in
    via c.loop-j.invariant.1 (diff-none a.list.now a.at _ c.loop-j.j (omega arith) (omega arith))
