use Rattle.asked.proofs.Judge.{goals}
use Rattle.asked.proofs.judged_goal.Goals as goal

pub returns-then-relations-relation : goal.returns-then-relations-relation
returns-then-relations-relation c = let p = c.args.book.now.accepted in search goals

pub returns-then-values-arity : goal.returns-then-values-arity
returns-then-values-arity c = let p = c.args.book.now.accepted in search goals

pub returns-else-values-arity : goal.returns-else-values-arity
returns-else-values-arity c = let p = c.args.book.now.accepted in search goals
