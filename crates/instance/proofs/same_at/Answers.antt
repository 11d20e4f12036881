use Rattle.instance.proofs.Numbers.{numbers}
use Rattle.instance.proofs.same_at.Goals as goal

pub returns : goal.returns
returns c = search numbers
