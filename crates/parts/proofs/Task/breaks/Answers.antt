use Rattle.std.proofs.Common.{arith, rules}
use Rattle.cursor.proofs.Laws.{via}
use Rattle.cursor.specs.Steps.{pick}
use Rattle.parts.specs.Task.{breaks_in}
use Rattle.parts.proofs.Tasks.{task_few, task_tree, task_body, task_head, task_breaks}
use Rattle.parts.proofs.Task.breaks.Goals as goal

pub truth-requires : goal.truth-requires
truth-requires c = record { v_bound = (task_few c.args.self.now, omega arith); tree = task_tree c.args.self.now }

pub met-requires : goal.met-requires
met-requires c = task_body c.args.self.now _ c.requires

pub holds-requires : goal.holds-requires
holds-requires c = task_head c.args.self.now _ c.requires

pub returns-then-met : goal.returns-then-met
unfolding breaks_in pick
returns-then-met c = via (task_breaks c.args.self.now c.args.values.now) (search rules)

pub returns-else-met : goal.returns-else-met
unfolding breaks_in pick
returns-else-met c = via (task_breaks c.args.self.now c.args.values.now) (search rules)
