use Rattle.std.proofs.Common.{arith}
use Rattle.steps.proofs.after.Goals as goal

pub number_in-k-requires : goal.number_in-k-requires
number_in-k-requires c = (c.requires.inside, c.requires.there)

pub row-requires : goal.row-requires
row-requires c = omega (arith, c.number_in-k.ensures, c.requires.there)

pub returns : goal.returns
returns c = let w = rw c.number_in-k.ensures at c.«row».ensures.says in omega (arith, w.vars)
