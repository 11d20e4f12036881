use Rattle.std.proofs.lemmas.Result.{err_from_is_err_and}
use Rattle.model.proofs.Weighing.{given-book, given-model}
use Rattle.model.proofs.read.Goals as goal

pub returns-in_err-open : goal.returns-in_err-open
returns-in_err-open c =
    let p = err_from_is_err_and c.from_residual.result c.from_residual.ensures.1 in
    rw (p.1, p.2) (given-book _ _ _ c.in_err-open.ensures)

pub returns : goal.returns
returns c = given-model _ _ c.in_ok-open.field-0 c.read.result c.in_ok-open.ensures.0 c.read.ensures
