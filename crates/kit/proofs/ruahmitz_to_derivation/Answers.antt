use Rattle.kit.proofs.Laws.{filled}
use Rattle.kit.proofs.ruahmitz_to_derivation.Goals as goal

pub returns : goal.returns
returns c = filled _ c.to_derivation.ensures c.answered.ensures
