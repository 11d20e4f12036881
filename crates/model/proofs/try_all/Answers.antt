use Rattle.std.proofs.lemmas.Result.{err_from_is_err_and}
use Rattle.model.proofs.Clauses.{due-none, due-small, due-stop, due-more, due-all, task_small}
use Rattle.model.proofs.try_all.Goals as goal

pub loop-k-init : goal.loop-k-init
loop-k-init c = due-none _

pub try_clause-requires : goal.try_clause-requires
try_clause-requires c = (due-small _ _ _ c.loop-k.invariant c.requires, task_small c.task.result (rw c.task.ensures.0 c.requires))

pub returns-in_err-seen : goal.returns-in_err-seen
returns-in_err-seen c =
    let p = err_from_is_err_and c.from_residual.result c.from_residual.ensures.1 in
    rw (p.1, p.2) (due-stop _ _ _ c.loop-k-test.true c.loop-k.invariant _ (rw (c.task.ensures.0, c.task.ensures.1) at c.in_err-seen.ensures))

pub loop-k-preserved : goal.loop-k-preserved
loop-k-preserved c = due-more _ _ _ c.loop-k-test.true c.loop-k.invariant _ (rw (c.task.ensures.0, c.task.ensures.1) at c.in_ok-seen.ensures)

pub returns : goal.returns
returns c = due-all _ _ _ c.loop-k-test.false c.loop-k.invariant
