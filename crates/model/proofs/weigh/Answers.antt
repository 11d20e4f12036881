use Rattle.book.specs.Held.{meant}
use Rattle.models.specs.Walk.{total}
use Rattle.model.proofs.Weighing.{few-of, query-small, query-tree, weigh-true, weigh-many, weigh-clean, weigh-broken}
use Rattle.model.proofs.weigh.Goals as goal

pub bounds-m-m : goal.bounds-m-m
bounds-m-m c = query-small c.args.m.now

pub walk-requires-clause-tree : goal.walk-requires-clause-tree
walk-requires-clause-tree c = query-tree c.args.m.now

pub returns-then-walk : goal.returns-then-walk
returns-then-walk c = weigh-true c.args.m.now c.walk.ensures c.if-walk.true c.refuse.ensures c.simply.ensures

pub returns-then-total_of-gt1000000 : goal.returns-then-total_of-gt1000000
returns-then-total_of-gt1000000 c =
    weigh-many c.args.m.now c.walk.ensures c.total_of.ensures c.if-walk.false c.if-total_of-gt1000000.true c.refuse-then-total_of-gt1000000.ensures c.simply-then-total_of-gt1000000.ensures

pub try_all-requires : goal.try_all-requires
try_all-requires c = few-of (total (meant c.args.m.now.book)) c.total_of.ensures c.if-total_of-gt1000000.false

pub returns-in-Ok : goal.returns-in-Ok
returns-in-Ok c = weigh-clean c.args.m.now c.walk.ensures c.total_of.ensures c.if-walk.false c.if-total_of-gt1000000.false _ c.in-Ok.ensures c.simply-in-Ok.ensures

pub returns-in-Err : goal.returns-in-Err
returns-in-Err c = weigh-broken c.args.m.now c.walk.ensures c.total_of.ensures c.if-walk.false c.if-total_of-gt1000000.false _ c.in-Err.ensures c.refuse-in-Err.ensures
