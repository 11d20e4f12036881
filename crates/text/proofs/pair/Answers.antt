use Rattle.sexp.specs.Sexp.{onto, lines_onto}
use Rattle.put.proofs.Laws.{join}
use Rattle.script.specs.Names.{in_state, pair_name}
use Rattle.text.proofs.pair.Goals as goal

pub returns : goal.returns
unfolding onto lines_onto in_state pair_name
returns c =
    let sort = rw c.sort.ensures at c.put_all-3.ensures in
    record { text = join c.put_all.ensures (join c.print.ensures (join c.put_all-2.ensures (join sort (join c.put_all-4.ensures (join c.print-2.ensures (join c.put_all-5.ensures (join c.print_when.ensures c.put_all-6.ensures))))))) }
