use Rattle.sexp.specs.Sexp.{onto, lines_onto}
use Rattle.put.proofs.Laws.{join}
use Rattle.script.specs.Lines as lines
use Rattle.term.specs.Name.{name_of}
use Rattle.text.proofs.prop.Goals as goal

pub returns : goal.returns
unfolding onto lines_onto lines.prop_line name_of
returns c =
    record { text = join c.put_all.ensures (join c.print.ensures c.put_all-2.ensures) }
