use Rattle.book.specs.Read.{headed}
use Rattle.book.proofs.Laws.{ways}
use Rattle.book.proofs.Header.judged.Goals as goal

pub returns-then-self : goal.returns-then-self
unfolding headed
returns-then-self c = search ways depth 14

pub returns : goal.returns
unfolding headed
returns c = search ways depth 14
