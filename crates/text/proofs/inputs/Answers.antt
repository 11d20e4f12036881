use Rattle.std.proofs.Common.{arith}
use Rattle.put.proofs.Laws.{lines_none, lines_more, lines-all}
use Rattle.script.specs.Names.{in_state}
use Rattle.script.specs.Lines as lines
use Rattle.term.specs.Name.{name_of}
use Rattle.text.specs.Sort.{sort_of}
use Rattle.text.proofs.inputs.Goals as goal

pub loop-i-init : goal.loop-i-init
loop-i-init c = lines_none _

pub loop-i-preserved : goal.loop-i-preserved
unfolding lines.input_line name_of sort_of in_state
loop-i-preserved c = lines_more _ _ c.loop-i.invariant c.declare.ensures

pub returns : goal.returns
returns c = lines-all _ (omega arith) (omega arith) c.loop-i.invariant
