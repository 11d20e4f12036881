use Rattle.std.proofs.Common.{rules}
use Rattle.put.proofs.Laws.{join}
use Rattle.term.proofs.Laws.{compared-low, compared-nil, there-low, there-nil}
use Rattle.term.proofs.Rule.compare.Goals as goal

pub with_zero-requires : goal.with_zero-requires
with_zero-requires c = search (rules, there-low, there-nil)

pub with_zero-requires-in-Equal : goal.with_zero-requires-in-Equal
with_zero-requires-in-Equal c = search (rules, there-low, there-nil)

pub returns-in-AtMost : goal.returns-in-AtMost
returns-in-AtMost c = compared-low _ _ c.in-AtMost.is (join c.put_all.ensures c.with_zero.ensures)

pub returns-in-Equal : goal.returns-in-Equal
returns-in-Equal c =
    compared-nil _ _ c.in-Equal.is (join c.put_all-in-Equal.ensures c.with_zero-in-Equal.ensures)
