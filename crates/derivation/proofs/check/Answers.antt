use Rattle.std.proofs.Common.{refl}
use Rattle.reply.specs.Answer.{answers}
use Rattle.reply.specs.Then.{handed}
use Rattle.book.proofs.Calls.{means, book-stop, book-on}
use Rattle.derivation.specs.Answer.{answer}
use Rattle.derivation.proofs.Laws.{plain-stop, check_done}
use Rattle.derivation.proofs.check.Goals as goal

pub returns-in_err-book : goal.returns-in_err-book
unfolding answer
returns-in_err-book c = answers (book-stop _ _ c.in_err-book.ensures (handed _ c.from_residual.ensures))

pub returns-in_err-check_in : goal.returns-in_err-check_in
unfolding answer
returns-in_err-check_in c =
    let (b, r) = c.in_ok-book.ensures in
    let e = rw (means _ _ c.of.ensures b) at c.check_in.ensures in
    answers (book-on _ _ r (plain-stop _ _ e c.in_err-check_in.was (handed _ c.from_residual-in_err-check_in.ensures)))

pub returns : goal.returns
unfolding answer
returns c =
    let (b, r) = c.in_ok-book.ensures in
    let e = rw (means _ _ c.of.ensures b) at c.check_in.ensures in
    answers (book-on _ _ r (check_done _ _ _ _ _ e c.in_ok-check_in.was refl))
