use Rattle.std.proofs.Common.{arith}
use Rattle.truth.proofs.Laws.{leaf-laws, past-laws, sum-there, divisor-there, rest-there, divisor-some}
use Rattle.truth.proofs.judged.Goals as goal

pub returns-then-k : goal.returns-then-k
returns-then-k c = record { is = search leaf-laws; past = search past-laws }

pub sum-x-requires : goal.sum-x-requires
sum-x-requires c = (omega arith, search sum-there)

pub returns-then-k-2 : goal.returns-then-k-2
returns-then-k-2 c = record { is = search leaf-laws; past = search past-laws }

pub returns-then-k-3 : goal.returns-then-k-3
returns-then-k-3 c = record { is = search leaf-laws; past = search past-laws }

pub u16_at-d-requires : goal.u16_at-d-requires
u16_at-d-requires c = search divisor-there

pub u16_at-m-requires : goal.u16_at-m-requires
u16_at-m-requires c = search rest-there

pub leaves_over-requires : goal.leaves_over-requires
leaves_over-requires c = search divisor-some

pub returns : goal.returns
returns c = record { is = search leaf-laws; past = search past-laws }
