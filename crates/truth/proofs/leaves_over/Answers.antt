use Rattle.std.proofs.Common.{T, of_z, sym, to_z, to_z-of_z, w64, ◌≡◌}
use lib.Signed.{non_neg}
use mir.Facts.{Fits-nat_abs}
use Rattle.whole.specs.Whole.{non_neg-of}
use Rattle.truth.proofs.Added.{leaves-neg, leaves-pos}
use Rattle.truth.proofs.leaves_over.Goals.{Else-x-lt0, Start}
use Rattle.truth.proofs.leaves_over.Goals as goal

x-is : (c : Start) → to_z w64 (of_z w64 c.args.x) ≡ c.args.x
x-is c = to_z-of_z c.ranges.x

not_neg : (c : Else-x-lt0) → T (non_neg c.args.x)
not_neg c = non_neg-of c.args.x (rw (x-is c.before) at c.if-x-lt0.false)

pub overflow_cast-result : goal.overflow_cast-result
overflow_cast-result c = rw (x-is (goal.at.overflow_cast-result c).Start) (not_neg (goal.at.overflow_cast-result c).Else-x-lt0, Fits-nat_abs {w = w64} tt c.ranges.x)

pub returns-then-x-lt0 : goal.returns-then-x-lt0
returns-then-x-lt0 c = sym (leaves-neg _ _ c.args.x (rw (x-is (goal.at.returns-then-x-lt0 c).Start) at c.if-x-lt0.true))

pub returns-else-x-lt0 : goal.returns-else-x-lt0
returns-else-x-lt0 c = rw (x-is (goal.at.returns-else-x-lt0 c).Start) (leaves-pos _ _ c.args.x (not_neg (goal.at.returns-else-x-lt0 c).Else-x-lt0))
