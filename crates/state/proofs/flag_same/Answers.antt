use Rattle.state.proofs.Laws.{flag_is}
use Rattle.state.proofs.flag_same.Goals as goal

pub returns : goal.returns
returns c = search flag_is
