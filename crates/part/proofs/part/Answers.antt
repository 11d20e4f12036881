use Rattle.sexp.specs.Sexp.{onto}
use Rattle.put.proofs.Laws.{join, one, all, more}
use Rattle.script.specs.Lines as lines
use Rattle.part.specs.Part.{atom_of, clause_of}
use Rattle.part.proofs.Laws.{head-there, body-there, rule-there, part_held}
use Rattle.part.proofs.part.Goals as goal

pub returns : goal.returns
unfolding lines.clause_part clause_of atom_of onto
returns c =
    part_held c.args.book.now _ _ c.record-l.ensures (record { text = join c.put_all.ensures (more _ _ c.windows.ensures (join c.put.ensures (one c.constraint.ensures (more _ _ c.body.ensures (more _ _ c.atom.ensures (all c.frames.ensures c.put-2.ensures)))))) })

pub constraint-requires : goal.constraint-requires
constraint-requires c = rule-there c.args.book.now _ _ c.record-l.ensures

pub body-requires : goal.body-requires
body-requires c = body-there c.args.book.now _ _ c.record-l.ensures

pub atom-requires : goal.atom-requires
atom-requires c = head-there c.args.book.now _ _ c.record-l.ensures
