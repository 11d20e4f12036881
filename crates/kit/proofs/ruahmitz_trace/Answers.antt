use Rattle.kit.proofs.Laws.{checked}
use Rattle.kit.proofs.ruahmitz_trace.Goals as goal

pub returns : goal.returns
returns c = checked _ c.check.ensures c.answered.ensures
