use Rattle.kit.proofs.Laws.{tells-done, tells-refused}
use Rattle.kit.proofs.answered.Goals as goal

pub returns-in-Ok : goal.returns-in-Ok
returns-in-Ok c = tells-done _ c.in-Ok.is c.told.ensures

pub returns-in-Err : goal.returns-in-Err
returns-in-Err c = tells-refused _ c.in-Err.is c.told-in-Err.ensures
