use Rattle.put.proofs.Laws.{join}
use Rattle.term.proofs.Laws.{name-flag, name-place, name-input}
use Rattle.term.proofs.Name.print.Goals as goal

pub returns-in-Flag : goal.returns-in-Flag
returns-in-Flag c = name-flag _ c.in-Flag.is (join c.put.ensures c.decimal.ensures)

pub returns-in-Place : goal.returns-in-Place
returns-in-Place c = name-place _ c.in-Place.is c.numbered.ensures

pub returns-in-Input : goal.returns-in-Input
returns-in-Input c = name-input _ c.in-Input.is c.numbered-in-Input.ensures
