use Rattle.book.specs.Read.{top_arity}
use Rattle.book.proofs.Laws.{ways}
use Rattle.book.proofs.most.Goals as goal

pub returns-then-i-q : goal.returns-then-i-q
unfolding top_arity
returns-then-i-q c = search ways

pub returns-else-i-q : goal.returns-else-i-q
unfolding top_arity
returns-else-i-q c = search ways
