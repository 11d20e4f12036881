use Rattle.std.proofs.Common.{arith}
use Rattle.meaning.specs.Book.{place_window}
use Rattle.book.specs.Held.{meant}
use Rattle.forth.proofs.Laws.{lows-none, lows-more, lows-all}
use Rattle.forth.proofs.low_rows.Goals as goal

pub loop-r-init : goal.loop-r-init
loop-r-init c = let a = c.args in (omega arith, lows-none (place_window (meant a.book.now)))

pub loop-r-preserved : goal.loop-r-preserved
loop-r-preserved c =
    let a = c.args in
    let t = c.loop-r in
    (omega arith, lows-more (place_window (meant a.book.now)) t.rows t.r c.loop-r-test.true c.low_row.ensures t.invariant.1)

pub returns : goal.returns
returns c =
    let a = c.args in
    let t = c.loop-r in
    lows-all (place_window (meant a.book.now)) t.rows t.r t.invariant.1 (omega (arith, c.loop-r-test.false, t.invariant.0))
