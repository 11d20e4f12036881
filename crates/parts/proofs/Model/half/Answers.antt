use Rattle.std.proofs.Common.{arith}
use Rattle.book.specs.Trailer.{read-trailed}
use Rattle.parts.proofs.Model.half.Goals as goal

pub bounds-self-i : goal.bounds-self-i
bounds-self-i c = omega (arith, c.requires, (read-trailed _ _ c.args.self.now.book.accepted).kept.few)
