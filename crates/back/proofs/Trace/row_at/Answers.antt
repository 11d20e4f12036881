use Rattle.std.proofs.Common.{arith}
use Rattle.back.proofs.Trace.row_at.Goals as goal

pub number_in-requires : goal.number_in-requires
number_in-requires c = (c.requires.inside, c.requires.there)

pub row-requires : goal.row-requires
row-requires c = omega (arith, c.number_in.ensures, c.requires.there)

pub returns : goal.returns
returns c = rw c.number_in.ensures at c.«row».ensures.says
