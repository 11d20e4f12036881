use Rattle.sexp.specs.Sexp.{onto, lines_onto}
use Rattle.put.proofs.Laws.{join}
use Rattle.text.proofs.declare.Goals as goal

pub returns : goal.returns
unfolding onto lines_onto
returns c =
    let sort = rw c.sort.ensures at c.put_all-3.ensures in
    record { text = join c.put_all.ensures (join c.print_when.ensures (join c.put_all-2.ensures (join sort c.put_all-4.ensures))) }
