use Rattle.sexp.specs.Sexp.{onto}
use Rattle.put.proofs.Laws.{join, one}
use Rattle.term.proofs.Rule.with_zero.Goals as goal

pub returns : goal.returns
unfolding onto
returns c = join c.put.ensures (one c.sum.ensures c.put_all.ensures)
