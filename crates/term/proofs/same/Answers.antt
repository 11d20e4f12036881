use Rattle.put.proofs.Laws.{join}
use Rattle.sexp.specs.Sexp.{onto}
use Rattle.script.specs.Terms as term
use Rattle.term.proofs.same.Goals as goal

pub returns : goal.returns
unfolding onto term.same
returns c =
    record { text = join c.put_all.ensures (join c.print_when.ensures (join c.put.ensures (join c.print.ensures c.put-2.ensures))) }
