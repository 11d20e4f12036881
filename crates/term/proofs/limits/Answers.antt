use Rattle.std.proofs.Common.{arith, w32}
use Rattle.put.proofs.Laws.{join, one, renum_wide}
use Rattle.sexp.specs.Sexp.{onto}
use Rattle.script.specs.Terms as term
use Rattle.term.proofs.limits.Goals as goal

pub returns : goal.returns
unfolding onto term.limits
returns c =
    let low = renum_wide w32 _ (omega arith) c.into.type_inv c.into.ensures c.signed.ensures in
    let high = renum_wide w32 _ (omega arith) c.into-2.type_inv c.into-2.ensures c.signed-2.ensures in
    record { text = join c.put_all.ensures (one low (join c.put.ensures (join c.print.ensures (join c.put_all-2.ensures (join c.print-2.ensures (join c.put-2.ensures (one high c.put-3.ensures))))))) }
