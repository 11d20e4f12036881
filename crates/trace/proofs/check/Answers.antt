use Rattle.reply.specs.Answer.{answers}
use Rattle.reply.specs.Then.{handed}
use Rattle.book.proofs.Calls.{means, book-stop, book-on}
use Rattle.trace.specs.Answer.{answer}
use Rattle.trace.proofs.check.Goals as goal

pub returns-in_err-book : goal.returns-in_err-book
unfolding answer
returns-in_err-book c = answers (book-stop _ _ c.in_err-book.ensures (handed _ c.from_residual.ensures))

pub returns : goal.returns
unfolding answer
returns c =
    let (b, r) = c.in_ok-book.ensures in
    answers (book-on _ _ r (rw (means _ _ c.of.ensures b) at c.check_in.ensures))
