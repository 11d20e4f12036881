use Rattle.kit.proofs.Laws.{span-ordered, span-handed}
use Rattle.kit.proofs.ruahmitz_constraint.Goals as goal

pub overflow_sub-result : goal.overflow_sub-result
overflow_sub-result c = span-ordered _ _ c.constraint_span-p.ensures

pub returns : goal.returns
returns c = span-handed _ _ c.constraint_span-p.ensures
