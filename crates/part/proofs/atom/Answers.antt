use Rattle.std.proofs.Common.{arith}
use Rattle.sexp.specs.Sexp.{onto}
use Rattle.put.proofs.Laws.{join, relist, each_none, each_more, each_all}
use Rattle.script.specs.Lines as lines
use Rattle.term.specs.Name.{name_of}
use Rattle.part.specs.Part.{atom_of}
use Rattle.part.proofs.Laws.{argument_in, arguments-are}
use Rattle.part.proofs.atom.Goals as goal

pub loop-i-init : goal.loop-i-init
loop-i-init c = each_none _

pub loop-i-preserved : goal.loop-i-preserved
unfolding argument_in lines.argument name_of
loop-i-preserved c = each_more _ _ c.loop-i.invariant c.same.ensures

pub returns : goal.returns
unfolding lines.atom_items atom_of name_of onto
returns c =
    let arguments = relist (arguments-are _ _ _ _ _ _ _ c.arity.ensures.0) (each_all _ (omega arith) (omega arith) c.loop-i.invariant) in
    record { text = join c.put.ensures (join c.print_when.ensures arguments.text) }
