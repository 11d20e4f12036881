use Rattle.term.proofs.Draws.{drawn-tree}
use Rattle.term.proofs.constraint.Goals as goal

pub returns : goal.returns
returns c = search drawn-tree
