use Rattle.std.proofs.Common.{arith}
use Rattle.sexp.specs.Sexp.{onto}
use Rattle.cursor.specs.Tree.{sum_of}
use Rattle.put.proofs.Laws.{join, one, all, relist, each_none, each_more, each_all}
use Rattle.script.specs.Terms as term
use Rattle.term.proofs.Laws.{read-num, read-product, product_at, products-are}
use Rattle.term.proofs.Rule.sum.Goals as goal

pub loop-i-init : goal.loop-i-init
loop-i-init c = each_none _

pub loop-i-preserved : goal.loop-i-preserved
unfolding product_at
loop-i-preserved c =
    each_more _ _ c.loop-i.invariant (read-product c.i16_at.type_inv c.i16_at.ensures _ _ c.product.ensures)

pub returns : goal.returns
unfolding onto term.sum sum_of
returns c =
    record { text = join c.put_all.ensures (one (read-num c.i32_at.type_inv c.i32_at.ensures c.signed.ensures) (all (relist (products-are _ _ _ _) (each_all _ (omega arith) (omega arith) c.loop-i.invariant)) c.put.ensures)) }
