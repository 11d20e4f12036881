use Rattle.std.proofs.Common.{arith, refl, sym}
use Rattle.cursor.proofs.Laws.{via}
use Rattle.state.specs.Laws.{bits-length, bits_at}
use Rattle.state.proofs.Difference.{diff-start, diff-none, diff-here, diff-later}
use Rattle.state.proofs.flags_differ.Goals as goal

pub loop-j-init : goal.loop-j-init
loop-j-init c = (omega arith, diff-start _ _ _)

pub loop-j-preserved : goal.loop-j-preserved
loop-j-preserved c =
    let a = c.args in
    let t = c.loop-j in
    let n = bits-length a.n a.flags.now in
    (omega arith, via t.invariant.1 (diff-later a.list.now a.at _ t.j (omega arith) (omega arith) c.flag_same.ensures (sym (bits_at a.n a.flags.now t.j (omega arith))) c.if-not-flag_same.false refl))

pub returns-then-not-flag_same : goal.returns-then-not-flag_same
returns-then-not-flag_same c =
    let a = c.args in
    let t = c.loop-j in
    let n = bits-length a.n a.flags.now in
    via t.invariant.1 (diff-here a.list.now a.at _ t.j (omega arith) (omega arith) c.flag_same.ensures (sym (bits_at a.n a.flags.now t.j (omega arith))) c.if-not-flag_same.true refl)

pub returns : goal.returns
returns c =
    let a = c.args in
    let n = bits-length a.n a.flags.now in
    via c.loop-j.invariant.1 (diff-none a.list.now a.at _ c.loop-j.j (omega arith) (omega arith))
