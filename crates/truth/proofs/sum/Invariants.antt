use Rattle.std.proofs.Common.{◌*◌, ◌+◌, length}
use Rattle.whole.specs.Whole.{Sized}
use Rattle.whole.specs.Bytes.{i32_at}
use Rattle.truth.proofs.Added.{added}
use Rattle.truth.proofs.sum.Given as goal

abbrev pub invariant-loop-k : goal.invariant-loop-k
invariant-loop-k l = Sized (added l.s l.at l.values (i32_at l.s (l.at + length l.values * 2)) l.k) (2147483648 + l.k * 70368744177664) l.acc
