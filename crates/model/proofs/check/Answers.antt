use Rattle.model.proofs.Weighing.{reply-weighed, reply-refused}
use Rattle.model.proofs.check.Goals as goal

pub returns-in-Ok : goal.returns-in-Ok
returns-in-Ok c = reply-weighed c.in-Ok.m c.weigh.result c.in-Ok.ensures c.weigh.ensures

pub returns-in-Err : goal.returns-in-Err
returns-in-Err c = reply-refused _ _ c.simply.result c.in-Err.r c.in-Err.ensures c.simply.ensures
