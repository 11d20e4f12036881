use Rattle.sexp.specs.Sexp.{lines_onto}
use Rattle.put.proofs.Laws.{rows, more_rows}
use Rattle.book.specs.Meaning.{book_in}
use Rattle.script.specs.Text.{script, text}
use Rattle.text.proofs.script.Goals as goal

pub returns : goal.returns
unfolding lines_onto script text book_in
returns c =
    more_rows _ _ c.relations.ensures (more_rows _ _ c.all_inputs.ensures (rows c.init.ensures (rows c.trans.ensures c.prop.ensures.text)))
