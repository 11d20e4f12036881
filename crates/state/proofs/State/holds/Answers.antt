use Rattle.std.proofs.Common.{arith, length, refl, ◌≤◌, ◌∙◌}
use Rattle.state.proofs.Shape.{arities-small, relation-there, relation-few}
use Rattle.state.proofs.Laws.{holds_on, holds-off}
use Rattle.state.proofs.State.holds.Goals.{Start}
use Rattle.state.proofs.State.holds.Goals as goal

-- as many values as its row has places for
small : (c : Start) → length c.args.values.now ≤ 8
small c =
    let good = c.args.book.now.accepted in
    omega (arith, c.requires.1, arities-small _ _ good c.args.relation (relation-there _ _ good refl c.requires.0))

pub bounds-self-relation : goal.bounds-self-relation
bounds-self-relation c = relation-few _ _ c.args.book.now.accepted refl c.requires.0

pub bounds-self-relation-then-self-relation : goal.bounds-self-relation-then-self-relation
bounds-self-relation-then-self-relation c = relation-few _ _ c.args.book.now.accepted refl c.requires.0

pub row_differs-requires : goal.row_differs-requires
row_differs-requires c = (omega arith, omega (arith, small (goal.at.row_differs-requires c).Start))

pub returns-then-self-relation : goal.returns-then-self-relation
returns-then-self-relation c =
    let a = c.args in
    holds_on _ _ a.book.now.accepted a.self.now.flags a.self.now.rows a.relation a.values.now c.requires.0 c.requires.1
    (omega (arith, small (goal.at.returns-then-self-relation c).Start)) c.row_differs.ensures c.if-self-relation.true

pub returns-else-self-relation : goal.returns-else-self-relation
returns-else-self-relation c =
    let a = c.args in
    c.if-self-relation.false ∙ holds-off _ _ a.book.now.accepted a.self.now.flags a.self.now.rows c.requires.0 c.requires.1 a.values.now c.if-self-relation.false
