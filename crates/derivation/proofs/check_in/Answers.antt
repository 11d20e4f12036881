use Rattle.lists.specs.Derivation.{check_derivation}
use Rattle.asked.proofs.Judge.{goal-full}
use Rattle.reply.specs.Then.{handed}
use Rattle.derivation.proofs.Laws.{counted_stop, counted-on}
use Rattle.derivation.proofs.check_in.Goals as goal

pub returns-in_err-judged_goal : goal.returns-in_err-judged_goal
unfolding check_derivation
returns-in_err-judged_goal c = counted_stop _ _ _ c.judged_goal.ensures c.in_err-judged_goal.was (handed _ c.from_residual.ensures)

pub returns-in_err-judged_length : goal.returns-in_err-judged_length
unfolding check_derivation
returns-in_err-judged_length c =
    counted-on _ _ _ c.judged_goal.ensures c.in_ok-judged_goal.was
    (counted_stop _ _ _ c.judged_length.ensures c.in_err-judged_length.was (handed _ c.from_residual-in_err-judged_length.ensures))

pub invariant_of-claim : goal.invariant_of-claim
invariant_of-claim c = record { values_len = goal-full _ _ _ c.judged_goal.ensures c.in_ok-judged_goal.was }

pub returns : goal.returns
unfolding check_derivation
returns c =
    counted-on _ _ _ c.judged_goal.ensures c.in_ok-judged_goal.was
    (counted-on _ _ _ c.judged_length.ensures c.in_ok-judged_length.was c.walk.ensures)
