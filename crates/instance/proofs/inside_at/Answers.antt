use Rattle.std.proofs.Common.{◌∙◌}
use Rattle.instance.proofs.Numbers.{numbers}
use Rattle.instance.proofs.inside_at.Goals as goal

pub returns-then-w-x : goal.returns-then-w-x
returns-then-w-x c = search numbers

pub returns-else-w-x : goal.returns-else-w-x
returns-else-w-x c = c.if-w-x.false ∙ search numbers
