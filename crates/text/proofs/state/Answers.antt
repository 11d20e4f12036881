use Rattle.sexp.specs.Sexp.{lines_onto}
use Rattle.put.proofs.Laws.{rows}
use Rattle.script.specs.Names.{in_state}
use Rattle.script.specs.Lines as lines
use Rattle.text.proofs.state.Goals as goal

pub returns : goal.returns
unfolding lines_onto in_state lines.state_lines
returns c =
    record { text = rows c.declare.ensures (rows c.declare-2.ensures c.pair.ensures.text) }
