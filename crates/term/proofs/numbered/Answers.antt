use Rattle.put.proofs.Laws.{join}
use Rattle.term.proofs.numbered.Goals as goal

pub returns : goal.returns
returns c = join c.put.ensures (join (join c.decimal.ensures c.put-2.ensures) c.decimal-2.ensures)
