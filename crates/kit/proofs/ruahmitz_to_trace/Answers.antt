use Rattle.kit.proofs.Laws.{filled}
use Rattle.kit.proofs.ruahmitz_to_trace.Goals as goal

pub returns : goal.returns
returns c = filled _ c.to_trace.ensures c.answered.ensures
