use Rattle.sexp.specs.Sexp.{onto}
use Rattle.put.proofs.Laws.{join, one}
use Rattle.script.specs.Terms as term
use Rattle.term.specs.Drawn.{remains_of}
use Rattle.term.proofs.Rule.remains.Goals as goal

pub returns : goal.returns
unfolding onto term.remains remains_of
returns c =
    record { text = join c.put_all.ensures (one c.sum.ensures (join c.put_all-2.ensures (one c.sum-2.ensures (join c.put.ensures (join c.decimal.ensures (join c.put_all-3.ensures (join c.decimal-2.ensures c.put_all-4.ensures))))))) }
