use Rattle.std.proofs.Common.{refl}
use Rattle.kit.proofs.Laws.{weighed}
use Rattle.kit.proofs.ruahmitz_model.Goals as goal

pub returns : goal.returns
returns c = weighed _ _ _ c.check-a.ensures refl c.answered.ensures
