use Rattle.std.proofs.Common.{arith, map, take, ◌++◌, ◌≡◌}
use Rattle.meaning.specs.State as meanings
use Rattle.meaning.specs.State.{bit}
use Rattle.lists.specs.Trace.{flat, state_numbers}
use Rattle.book.specs.Held.{meant}
use Rattle.state.specs.State.{held, rows_of}
use Rattle.state.proofs.Shape.{relations-few}
use Rattle.forth.proofs.Laws.{state-parts}
use Rattle.forth.proofs.Left.{first-fits, second-fits, puts-join}
use Rattle.forth.proofs.Writer.state.Goals.{After-relations}
use Rattle.forth.proofs.Writer.state.Goals as goal

-- a state's numbers are its flags' and then its places
parts : (c : After-relations) →
    let b = meant c.args.book.now in
    let σ = c.args.state.now in
    state_numbers b meanings.flags (held b σ) ≡ map bit (take c.relations.result σ.flags) ++ flat (rows_of b.arities σ.rows)
parts c = state-parts _ _ _ _ c.args.book.now.accepted c.relations.ensures (omega arith)

pub shared_ref_as_front-flags : goal.shared_ref_as_front-flags
shared_ref_as_front-flags c = omega (arith, c.relations.ensures, relations-few _ _ c.args.book.now.accepted)

pub flags-requires : goal.flags-requires
flags-requires c = first-fits _ (rw (parts (goal.at.flags-requires c).After-relations) at c.requires)

pub places-requires : goal.places-requires
places-requires c = second-fits c.flags.ensures (rw (parts (goal.at.places-requires c).After-relations) at c.requires)

pub returns : goal.returns
returns c = rw (parts (goal.at.returns c).After-relations) (puts-join c.flags.ensures c.places.ensures)
