use Rattle.put.proofs.Laws.{join}
use Rattle.script.specs.Names.{next, in_state}
use Rattle.term.proofs.Name.print_when.Goals as goal

pub returns-in-Before : goal.returns-in-Before
unfolding in_state
returns-in-Before c = rw c.in-Before.is c.print.ensures

pub returns-in-After : goal.returns-in-After
unfolding in_state next
returns-in-After c = rw c.in-After.is (join c.print.ensures c.put.ensures)
