use Rattle.std.proofs.Common.{sym, ap, ◌∙◌, Some}
use Rattle.back.proofs.Places.{cells_of}
use Rattle.back.proofs.Laws.{stepped-wrote}
use Rattle.back.proofs.Trace.step_back.Goals as goal

pub returns-then-row-wanted : goal.returns-then-row-wanted
returns-then-row-wanted c =
    let a = c.args in
    stepped-wrote (cells_of c.requires.here.good c.row_at-row.ensures) a.w a.room.now _ _ (c.in-Some.is ∙ ap Some (sym c.if-row-wanted.true))
    c.body_relation.ensures c.write_step-at.ensures
