use Rattle.std.proofs.Common.{get_or, pos}
use Rattle.instance.proofs.Numbers.{number_fits, numbers}
use Rattle.instance.proofs.number_at.Goals as goal

pub overflow_cast-result : goal.overflow_cast-result
overflow_cast-result c = number_fits (get_or c.args.list.now c.args.i (pos 0)) c.x-1.given c.if-x-lt0.false

pub returns-then-x-lt0 : goal.returns-then-x-lt0
returns-then-x-lt0 c = search numbers

pub returns-else-x-lt0 : goal.returns-else-x-lt0
returns-else-x-lt0 c = search numbers
