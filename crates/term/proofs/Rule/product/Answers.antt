use Rattle.std.proofs.Common.{w64}
use Rattle.put.proofs.Laws.{join, one, renum}
use Rattle.sexp.specs.Sexp.{onto}
use Rattle.script.specs.Names.{input_name}
use Rattle.script.specs.Terms as term
use Rattle.term.proofs.Rule.product.Goals as goal

pub returns : goal.returns
unfolding onto term.product input_name
returns c =
    record { text = join c.put_all.ensures (one (renum w64 _ c.ranges.c.sfits c.signed.ensures) (join c.put.ensures (join c.numbered.ensures c.put-2.ensures))) }
