use Rattle.std.proofs.Common.{[], arith, drop, get_or, length, rules, take, ◌++◌, ◌+◌, ◌≡◌}
use Rattle.lists.specs.Trace.{flat}
use Rattle.book.specs.Held.{meant}
use Rattle.state.specs.State.{rows_of}
use Rattle.state.proofs.Shape.{relation-there, relation-past, relation-few}
use Rattle.forth.proofs.Laws.{places-next, places-none}
use Rattle.forth.proofs.Left.{Left, next-fits, left-more, left-none}
use Rattle.forth.proofs.Writer.places.Goals.{After-arity-many}
use Rattle.forth.proofs.Writer.places.Goals as goal

-- the places of the relation that the loop is at come next
next : (c : After-arity-many) → length (take c.arity-many.result (get_or c.args.state.now.rows c.loop-r.r [])) ≡ c.arity-many.result →
    let ns = (meant c.args.book.now).arities in
    let vs = c.args.state.now.rows in
    let r = c.loop-r.r in
    Left c.args.self.now c.loop-r.self (flat (rows_of ns vs)) (take c.arity-many.result (get_or vs r []) ++ flat (rows_of (drop (r + 1) ns) (drop (r + 1) vs)))
next c long =
    let h = relation-there _ _ c.args.book.now.accepted c.relations-r-end.ensures c.loop-r-test.true in
    rw (places-next _ _ c.loop-r.r h c.arity-many.ensures.0 long) at c.loop-r.invariant

pub offset_bounds-state-r : goal.offset_bounds-state-r
offset_bounds-state-r c = let k = relation-few _ _ c.args.book.now.accepted c.relations-r-end.ensures c.loop-r-test.true in search rules

pub bounds-state-r : goal.bounds-state-r
bounds-state-r c = relation-few _ _ c.args.book.now.accepted c.relations-r-end.ensures c.loop-r-test.true

pub numbers-requires : goal.numbers-requires
numbers-requires c = next-fits _ (next (goal.at.numbers-requires c).After-arity-many (omega arith))

pub loop-r-preserved : goal.loop-r-preserved
loop-r-preserved c = left-more (next (goal.at.loop-r-preserved c).After-arity-many (omega arith)) c.numbers.ensures

pub returns : goal.returns
returns c = left-none c.loop-r.invariant (places-none _ _ (relation-past _ _ c.args.book.now.accepted c.relations-r-end.ensures c.loop-r-test.false))
