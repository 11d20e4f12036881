use Rattle.std.proofs.Common.{arith, refl}
use Rattle.put.proofs.Laws.{wrote_copied, wrote_past}
use Rattle.put.proofs.Printer.put_all.Goals as goal

pub returns-then-at-self : goal.returns-then-at-self
returns-then-at-self c =
    wrote_copied c.min-held.result refl (omega arith) (omega arith) c.min-held.ensures (omega arith) c.copy_from_slice.ensures.after refl

pub returns-else-at-self : goal.returns-else-at-self
returns-else-at-self c = wrote_past refl (omega arith) (omega arith) refl
