use Rattle.std.proofs.Common.{arith}
use Rattle.instance.proofs.Atoms.{head-there}
use Rattle.state.proofs.Laws.{head_few, head_set, head-put}
use Rattle.state.proofs.State.put.Goals as goal

pub bounds-self-r : goal.bounds-self-r
bounds-self-r c = head_few c.args.table.now.book.accepted c.row-row.ensures.says

pub bounds-self-r-2 : goal.bounds-self-r-2
bounds-self-r-2 c = head_few c.args.table.now.book.accepted c.row-row.ensures.says

pub fill-requires : goal.fill-requires
fill-requires c = let w = c.row-row.ensures.says in (omega (arith, w.head.few), head-there w c.args.list.now c.args.from c.requires.1)

pub returns-clause-flags : goal.returns-clause-flags
returns-clause-flags c = let a = c.args in head_set c.row-row.ensures.says a.list.now a.from a.self.now.flags

pub returns-clause-rows : goal.returns-clause-rows
returns-clause-rows c = let a = c.args in head-put c.row-row.ensures.says a.list.now a.from a.self.now.rows _ c.fill.ensures
