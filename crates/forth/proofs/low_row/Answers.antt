use Rattle.std.proofs.Common.{arith, rules}
use Rattle.meaning.specs.Book.{place_window}
use Rattle.book.specs.Held.{meant}
use Rattle.forth.proofs.Laws.{low-none, low-more, low-all}
use Rattle.forth.proofs.low_row.Goals as goal

pub loop-j-init : goal.loop-j-init
loop-j-init c = let a = c.args in (omega arith, low-none (place_window (meant a.book.now) a.r))

pub loop-j-preserved : goal.loop-j-preserved
loop-j-preserved c =
    let a = c.args in
    let t = c.loop-j in
    (omega arith, low-more (place_window (meant a.book.now) a.r) t.row t.j c.loop-j-test.true c.place_window.ensures.lo (search rules) t.invariant.1)

pub returns : goal.returns
returns c =
    let a = c.args in
    let t = c.loop-j in
    low-all (place_window (meant a.book.now) a.r) t.row t.j t.invariant.1 (omega (arith, c.loop-j-test.false, t.invariant.0))
