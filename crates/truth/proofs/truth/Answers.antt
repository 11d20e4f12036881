use Rattle.std.proofs.Common.{arith}
use Rattle.truth.proofs.Due.{low-here, low-alone, low-is, part-is, part-long}
use Rattle.truth.proofs.truth.Goals as goal

pub bounds-s-p : goal.bounds-s-p
bounds-s-p c = search low-here

pub judged-l-requires : goal.judged-l-requires
judged-l-requires c =
    let h = c.requires.v_bound.1 in
    rw (part-is _ _ _ h, part-long _ _ _ h) (omega arith, low-alone _ _ _ c.requires.tree c.if-k.true)

pub returns-then-k : goal.returns-then-k
returns-then-k c =
    let h = c.requires.v_bound.1 in
    low-is _ _ _ c.requires.tree c.if-k.true _ (rw (part-is _ _ _ h, part-long _ _ _ h) at c.judged-l.ensures)
