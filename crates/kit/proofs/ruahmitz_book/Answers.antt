use Rattle.kit.proofs.Laws.{read}
use Rattle.kit.proofs.ruahmitz_book.Goals as goal

pub returns : goal.returns
returns c = read _ c.read_book.ensures c.refused_by.ensures c.answered.ensures
