use Rattle.book.specs.Read.{entry_at}
use Rattle.book.proofs.entry.Goals as goal

pub returns : goal.returns
unfolding entry_at
returns c = rw c.short_at.ensures.0
