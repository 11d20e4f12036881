use Rattle.reply.specs.Then.{handed}
use Rattle.book.proofs.Calls.{means, room-stop, room-on}
use Rattle.convert.proofs.Laws.{replies-length, trace-on, trace-stop, derivation-walk, derivation-long}
use Rattle.convert.proofs.to_trace.Goals as goal

pub returns-in_err-book : goal.returns-in_err-book
returns-in_err-book c = room-stop _ _ _ c.in_err-book.ensures (handed _ c.from_residual.ensures)

pub returns-in_err-steps : goal.returns-in_err-steps
returns-in_err-steps c =
    let (b, r) = c.in_ok-book.ensures in
    let e = rw (means _ _ c.of-table.ensures b) at c.check_in.ensures in
    room-on _ _ _ r (trace-stop _ _ _ _ _ _ e c.in_err-steps.was (handed _ c.from_residual-in_err-steps.ensures))

pub traced-requires : goal.traced-requires
traced-requires c =
    let good = c.of-table.result.book.accepted in
    let (b, r) = c.in_ok-book.ensures in
    record {
      walk = derivation-walk _ _ _ _ _ good c.check_in.ensures c.in_ok-steps.was;
      long = derivation-long _ _ _ _ _ good c.check_in.ensures c.in_ok-steps.was (λ i. rw (c.of-table.ensures, b) (c.type_inv.book i));
    }

pub shape_of-room : goal.shape_of-room
shape_of-room c = replies-length _ _ _ c.traced.ensures

pub returns : goal.returns
returns c =
    let (b, r) = c.in_ok-book.ensures in
    let m = means _ _ c.of-table.ensures b in
    room-on _ _ _ r (trace-on _ _ _ _ _ _ (rw m at c.check_in.ensures) c.in_ok-steps.was (rw m at c.traced.ensures))
