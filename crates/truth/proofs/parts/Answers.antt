use Rattle.cursor.proofs.Laws.{ways}
use Rattle.truth.specs.Stood.{parts_of}
use Rattle.truth.proofs.Laws.{tests}
use Rattle.truth.proofs.parts.Goals as goal

pub returns-then-joins : goal.returns-then-joins
unfolding parts_of
returns-then-joins c = search (tests, ways)
