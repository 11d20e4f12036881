use Rattle.put.proofs.Laws.{join, retext}
use Rattle.put.proofs.Signs.{num-neg, num_pos}
use Rattle.put.proofs.Printer.signed.Goals as goal

pub returns-then-n-lt0 : goal.returns-then-n-lt0
returns-then-n-lt0 c =
    record { text = retext (num-neg c.ranges.n c.if-n-lt0.true c.unsigned_abs-m.ensures.value) (join c.put_all.ensures (join c.decimal.ensures c.put.ensures)) }

pub returns-else-n-lt0 : goal.returns-else-n-lt0
returns-else-n-lt0 c =
    record { text = retext (num_pos c.ranges.n c.if-n-lt0.false c.unsigned_abs-m.ensures.value) c.decimal-else-n-lt0.ensures }
