use Rattle.std.proofs.Common.{arith}
use Rattle.book.specs.Held.{meant}
use Rattle.state.proofs.Shape.{relations-few, relation-past, relation-places, size_is, sum-none}
use Rattle.state.proofs.size.Goals as goal

pub overflow_add-total : goal.overflow_add-total
overflow_add-total c =
    record { fits = omega (arith, relations-few _ _ c.args.book.now.accepted, c.relations-r-end.ensures, c.arity-total.ensures.1) }

pub loop-r-preserved : goal.loop-r-preserved
loop-r-preserved c =
    let z = relation-places _ _ c.args.book.now.accepted c.relations-r-end.ensures c.loop-r-test.true in
    let m = c.arity-total.ensures in
    (omega (arith, m.1), omega (arith, z, m.0))

pub returns : goal.returns
returns c =
    let good = c.args.book.now.accepted in
    let t = c.loop-r in
    let z = sum-none (meant c.args.book.now).arities t.r (relation-past _ _ good c.relations-r-end.ensures c.loop-r-test.false) in
    record {
      is = omega (arith, t.invariant.1, z, size_is _ _ good);
      small = omega (arith, t.invariant.0, c.relations-r-end.ensures, relations-few _ _ good);
    }
