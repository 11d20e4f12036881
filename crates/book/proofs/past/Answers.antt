use Rattle.std.proofs.Common.{arith, sym}
use Rattle.book.specs.Laid.{past-none, past-some}
use Rattle.book.proofs.past.Goals as goal

pub bounds-book-r : goal.bounds-book-r
bounds-book-r c = c.requires.r_in_bounds c.if-r-eq255.false

pub returns-then-r-eq255 : goal.returns-then-r-eq255
returns-then-r-eq255 c = sym (past-none _ _ _ c.if-r-eq255.true)

pub returns-else-r-eq255 : goal.returns-else-r-eq255
returns-else-r-eq255 c = omega (arith, past-some c.args.book.now c.args.p c.args.r c.if-r-eq255.false)
