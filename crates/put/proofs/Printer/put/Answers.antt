use Rattle.std.proofs.Common.{arith, refl}
use Rattle.put.proofs.Laws.{wrote_one, wrote-out}
use Rattle.put.proofs.Printer.put.Goals as goal

pub returns-then-at-self : goal.returns-then-at-self
returns-then-at-self c = wrote_one refl (omega arith) refl

pub returns-else-at-self : goal.returns-else-at-self
returns-else-at-self c = wrote-out refl (omega arith) refl (omega arith)
