use Rattle.std.proofs.Common.{arith}
use Rattle.book.specs.Joined.{count-is}
use Rattle.sexp.specs.Sexp.{onto, lines_onto}
use Rattle.put.proofs.Laws.{join, all, each_none, each_more, each_all}
use Rattle.script.specs.Lines as lines
use Rattle.text.proofs.Laws.{part_at}
use Rattle.text.proofs.trans.Goals as goal

pub loop-k-init : goal.loop-k-init
loop-k-init c = each_none _

pub loop-k-preserved : goal.loop-k-preserved
unfolding part_at
loop-k-preserved c = each_more _ _ c.loop-k.invariant c.part.ensures

pub returns : goal.returns
unfolding onto lines_onto lines.trans_line part_at
returns c =
    let e = count-is _ _ c.args.book.now.accepted in
    record { text = join c.put_all.ensures (all (each_all _ (omega arith) (omega arith) c.loop-k.invariant) c.put_all-2.ensures) }
