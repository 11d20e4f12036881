use Rattle.std.specs.Prelude.{Err}
use Rattle.std.proofs.Common.{ap, ◌∙◌}
use Rattle.std.proofs.lemmas.Result.{err_from_is_err_and}
use Rattle.book.proofs.Calls.{room-stop, room-on}
use Rattle.text.proofs.Top.{prints-short, prints-written}
use Rattle.text.proofs.Small.{text-small}
use Rattle.text.proofs.print.Goals as goal

pub returns-in_err-book : goal.returns-in_err-book
returns-in_err-book c =
    let (e, p, q) = err_from_is_err_and c.from_residual.result c.from_residual.ensures.1 in
    room-stop _ _ _ c.in_err-book.ensures (p ∙ ap Err q)

pub returns-then-room-need : goal.returns-then-room-need
returns-then-room-need c =
    let (b, r) = c.in_ok-book.ensures in
    let w = rw b at c.write-need.ensures in
    room-on _ _ _ r (prints-short _ _ (text-small _ _ (λ i. (c.type_inv.book i).fits) r) w.room w.size c.if-room-need.true c.refuse.ensures)

pub returns : goal.returns
returns c =
    let (b, r) = c.in_ok-book.ensures in
    let w = rw b at c.write-need.ensures in
    room-on _ _ _ r (prints-written _ _ (text-small _ _ (λ i. (c.type_inv.book i).fits) r) w.room w.size c.if-room-need.false (rw b at c.write.ensures.room))
