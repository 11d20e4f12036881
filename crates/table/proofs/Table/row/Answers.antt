use Rattle.std.proofs.Common.{arith, ◌<◌}
use Rattle.book.specs.Trailer.{read-trailed}
use Rattle.table.proofs.Table.row.Goals as goal
use Rattle.table.proofs.Table.row.Goals.{Start}

few : (c : Start) → c.args.k < 64
few c = let t = (read-trailed _ _ c.args.self.now.book.accepted).kept in omega (arith, c.requires)

pub offset_bounds-self-k : goal.offset_bounds-self-k
offset_bounds-self-k c = record { fits = omega (arith, few (goal.at.offset_bounds-self-k c).Start) }

pub bounds-self-k : goal.bounds-self-k
bounds-self-k c = few (goal.at.bounds-self-k c).Start

pub returns-clause-says : goal.returns-clause-says
returns-clause-says c = c.args.self.now.tabled.row _ c.requires
