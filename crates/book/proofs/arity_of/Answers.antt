use Rattle.std.proofs.Common.{arith, sym}
use Rattle.book.specs.Arities.{arity-is, arity-small}
use Rattle.book.specs.Trailer.{read-trailed}
use Rattle.book.proofs.arity_of.Goals as goal

pub bounds-book-r : goal.bounds-book-r
bounds-book-r c = let p = c.requires in let k = (read-trailed _ _ p.accepted).kept in omega (arith, p.r_lt_relations)

pub returns : goal.returns
returns c =
    let p = c.requires in
    (sym (arity-is _ _ p.accepted _ p.r_lt_relations), omega (arith, arity-small _ _ p.accepted _ p.r_lt_relations))
