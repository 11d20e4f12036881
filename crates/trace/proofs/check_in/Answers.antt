use Rattle.lists.specs.Trace.{check_trace}
use Rattle.book.specs.Arities.{relations-are}
use Rattle.asked.proofs.Judge.{then-stop, then-on, goal-below, goal-full}
use Rattle.reply.specs.Then.{handed}
use Rattle.trace.proofs.First.{first-long, whole-stop, whole-on}
use Rattle.trace.proofs.check_in.Goals as goal

pub returns-in_err-judged_goal : goal.returns-in_err-judged_goal
unfolding check_trace
returns-in_err-judged_goal c = then-stop _ _ c.judged_goal.ensures c.in_err-judged_goal.was (handed _ c.from_residual.ensures)

pub returns-in_err-judged_length : goal.returns-in_err-judged_length
unfolding check_trace
returns-in_err-judged_length c =
    then-on _ _ c.judged_goal.ensures c.in_ok-judged_goal.was
    (then-stop _ _ c.judged_length.ensures c.in_err-judged_length.was (handed _ c.from_residual-in_err-judged_length.ensures))

pub invariant_of-claim : goal.invariant_of-claim
invariant_of-claim c = record {
  sized = c.size.ensures;
  relation_lt_relations = rw (relations-are _ _ c.args.table.now.book.accepted) at (goal-below _ _ _ c.judged_goal.ensures c.in_ok-judged_goal.was);
  values_len = goal-full _ _ _ c.judged_goal.ensures c.in_ok-judged_goal.was;
}

pub returns-in_err-judged_first : goal.returns-in_err-judged_first
unfolding check_trace
returns-in_err-judged_first c =
    then-on _ _ c.judged_goal.ensures c.in_ok-judged_goal.was
    (then-on _ _ c.judged_length.ensures c.in_ok-judged_length.was
    (whole-stop _ _ _ _ c.judged_first.ensures c.in_err-judged_first.was (handed _ c.from_residual-in_err-judged_first.ensures)))

pub walk-requires : goal.walk-requires
walk-requires c =
    first-long _ _ c.args.list.now _ c.args.table.now.book.accepted c.size.ensures c.judged_first.ensures c.in_ok-judged_first.was

pub returns : goal.returns
unfolding check_trace
returns c =
    then-on _ _ c.judged_goal.ensures c.in_ok-judged_goal.was
    (then-on _ _ c.judged_length.ensures c.in_ok-judged_length.was
    (whole-on _ _ _ _ c.judged_first.ensures c.size.ensures c.in_ok-judged_first.was c.walk.ensures))
