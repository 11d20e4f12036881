use Rattle.std.proofs.Common.{arith}
use Rattle.put.proofs.Laws.{both-lines, lines_none, lines_more, lines-all}
use Rattle.script.specs.Lines as lines
use Rattle.term.specs.Name.{name_of}
use Rattle.text.specs.Sort.{sort_of}
use Rattle.text.proofs.relation.Goals as goal

pub loop-i-init : goal.loop-i-init
loop-i-init c = lines_none _

pub loop-i-preserved : goal.loop-i-preserved
unfolding lines.place_lines name_of sort_of
loop-i-preserved c = lines_more _ _ c.loop-i.invariant c.state-in-loop-i.ensures

pub returns : goal.returns
unfolding lines.relation_lines name_of sort_of
returns c = both-lines c.state.ensures (lines-all _ (omega arith) (omega arith) c.loop-i.invariant)
