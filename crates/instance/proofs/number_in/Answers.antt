use Rattle.std.proofs.Common.{arith, get_or, pos}
use Rattle.book.specs.Held.{meant}
use Rattle.book.specs.Joined.{count-is}
use Rattle.instance.proofs.Numbers.{number-fits, number-is}
use Rattle.instance.proofs.number_in.Goals as goal

pub overflow_cast-result : goal.overflow_cast-result
overflow_cast-result c =
    let a = c.args in
    number-fits (meant a.book.now) (get_or a.list.now a.i (pos 0)) c.result-1.given (omega (arith, c.requires.1, count-is _ _ a.book.now.accepted))

pub returns : goal.returns
returns c =
    let a = c.args in
    number-is (meant a.book.now) (get_or a.list.now a.i (pos 0)) c.result-1.given (omega (arith, c.requires.1, count-is _ _ a.book.now.accepted))
