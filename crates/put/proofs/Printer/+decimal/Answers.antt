use Rattle.put.proofs.Laws.{join}
use Rattle.put.specs.Digits.{digits-one, digits_more}
use Rattle.put.proofs.Printer.+decimal.Goals as goal

pub returns-then-n-lt10 : goal.returns-then-n-lt10
returns-then-n-lt10 t c = rw (digits-one _ c.if-n-lt10.true) c.put.ensures

pub returns-else-n-lt10 : goal.returns-else-n-lt10
returns-else-n-lt10 t c = rw (digits_more _ c.if-n-lt10.false) (join c.decimal.ensures c.put-else-n-lt10.ensures)
