use Rattle.reply.specs.Then.{handed}
use Rattle.book.proofs.Calls.{means, room-stop, room-on}
use Rattle.convert.proofs.Laws.{replies-length, derivation-on, derivation-stop, trace-walk, trace-small}
use Rattle.convert.proofs.to_derivation.Goals as goal

pub returns-in_err-book : goal.returns-in_err-book
returns-in_err-book c = room-stop _ _ _ c.in_err-book.ensures (handed _ c.from_residual.ensures)

pub returns-in_err-check_in : goal.returns-in_err-check_in
returns-in_err-check_in c =
    let (b, r) = c.in_ok-book.ensures in
    let e = rw (means _ _ c.of-table.ensures b) at c.check_in.ensures in
    room-on _ _ _ r (derivation-stop _ _ _ _ _ e c.in_err-check_in.was (handed _ c.from_residual-in_err-check_in.ensures))

pub derived-requires : goal.derived-requires
derived-requires c =
    let good = c.of-table.result.book.accepted in
    record {
      trace = trace-walk _ _ _ _ _ good c.check_in.ensures c.in_ok-check_in.was;
      relation_bound = trace-small _ _ _ _ _ good c.check_in.ensures c.in_ok-check_in.was;
    }

pub shape_of-room : goal.shape_of-room
shape_of-room c = replies-length _ _ _ c.derived.ensures

pub returns : goal.returns
returns c =
    let (b, r) = c.in_ok-book.ensures in
    let m = means _ _ c.of-table.ensures b in
    room-on _ _ _ r (derivation-on _ _ _ _ _ (rw m at c.check_in.ensures) c.in_ok-check_in.was (rw m at c.derived.ensures))
