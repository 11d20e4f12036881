use Rattle.std.proofs.Common.{arith, ◌∙◌}
use Rattle.instance.proofs.Atoms.{body-there}
use Rattle.state.proofs.Laws.{meets-none, meets-off, meets-row, body-few, body-small}
use Rattle.state.proofs.State.meets.Goals as goal

pub returns-in_default : goal.returns-in_default
returns-in_default c =
    let a = c.args in
    meets-none a.table.now.book.accepted c.row-row.ensures.says a.list.now a.from a.self.now.flags a.self.now.rows c.in_default.is

pub bounds-self-r : goal.bounds-self-r
bounds-self-r c =
    let a = c.args in
    body-few a.table.now.book.accepted c.row-row.ensures.says a.list.now a.from a.self.now.flags a.self.now.rows c.in-Some.is

pub values_are-requires : goal.values_are-requires
values_are-requires c =
    let a = c.args in
    let w = c.row-row.ensures.says in (
      body-there w a.list.now a.from c.in-Some.is c.requires.1,
      omega (arith, body-small a.table.now.book.accepted w a.list.now a.from a.self.now.flags a.self.now.rows c.in-Some.is),
    )

pub returns-then-self-r : goal.returns-then-self-r
returns-then-self-r c =
    let a = c.args in
    let w = c.row-row.ensures.says in
    meets-row a.table.now.book.accepted w a.list.now a.from a.self.now.flags a.self.now.rows c.in-Some.is
    (omega (arith, body-small a.table.now.book.accepted w a.list.now a.from a.self.now.flags a.self.now.rows c.in-Some.is))
    c.if-self-r.true c.values_are.ensures

pub returns-else-self-r : goal.returns-else-self-r
returns-else-self-r c =
    let a = c.args in
    c.if-self-r.false
    ∙ meets-off a.table.now.book.accepted c.row-row.ensures.says a.list.now a.from a.self.now.flags a.self.now.rows c.in-Some.is c.if-self-r.false
