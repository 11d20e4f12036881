use Rattle.sexp.specs.Sexp.{onto, lines_onto}
use Rattle.put.proofs.Laws.{join, all, more, relist}
use Rattle.script.specs.Lines as lines
use Rattle.text.proofs.Laws.{denied-are}
use Rattle.text.proofs.init.Goals as goal

pub returns : goal.returns
unfolding onto lines_onto lines.init_line
returns c =
    record { text = join c.put_all.ensures (more _ _ (relist (denied-are c.args.book.now) (rw c.relations.ensures at c.denied.ensures)) (all c.place_limits.ensures c.put_all-2.ensures)) }
