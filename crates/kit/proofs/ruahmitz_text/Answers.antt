use Rattle.kit.proofs.Laws.{filled}
use Rattle.kit.proofs.ruahmitz_text.Goals as goal

pub returns : goal.returns
returns c = filled _ c.print.ensures c.answered.ensures
