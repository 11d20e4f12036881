use Rattle.std.proofs.Common.{FitsSigned, add-one, arith, get_or, length, of_z, pos, rules, sym, to_z, w32, w64, ℕ, ℤ, ◌*ℤ◌, ◌*◌, ◌+ℤ◌, ◌+◌, ◌≡◌}
use lib.Seq.{take-length}
use Rattle.whole.specs.Whole.{Sized, signed-sized, param, read, kept, sized-at, sized-le, sized-fits, sized-+, sized-*}
use Rattle.whole.specs.Bytes.{i16_at, i32_at}
use Rattle.meaning.specs.Constraint.{plus}
use Rattle.cursor.specs.Tree.{sum_of, coefficients_at}
use Rattle.truth.proofs.Added.{added, added_more}
use Rattle.truth.proofs.sum.Goals.{After-i16_at}
use Rattle.truth.proofs.sum.Goals as goal

pub loop-k-init : goal.loop-k-init
unfolding plus coefficients_at
loop-k-init c = sized-le (omega arith) (read w64 c.i32_at-acc.type_inv (signed-sized c.i32_at-acc.ensures))

-- the product, and the sum with it
module _ (c : After-i16_at) where
  abbrev k : ℕ
  k = c.loop-k.k

  abbrev value : ℤ
  value = get_or c.args.values.now k (pos 0)

  fits : FitsSigned w32 value
  fits = search rules

  -- what the machine computes
  abbrev m : ℤ
  m = to_z w64 (of_z w64 c.i16_at.result) *ℤ to_z w64 (of_z w64 (to_z w32 (of_z w32 value)))

  product : Sized (i16_at c.args.s.now (c.args.at + k * 2) *ℤ value) 70368744177664 m
  product = sized-* (read w64 c.i16_at.type_inv (signed-sized c.i16_at.ensures)) (kept w64 (omega arith) (param fits))

  summed : Sized (added c.args.s.now c.args.at c.args.values.now (i32_at c.args.s.now (c.args.at + length c.args.values.now * 2)) (k + 1)) (2147483648 + (k + 1) * 70368744177664) (to_z w64 c.loop-k.acc-bits +ℤ to_z w64 (of_z w64 m))
  summed = rw add-one (sized-at (sized-le (omega arith) (sized-+ c.loop-k.invariant (kept w64 (omega arith) product))) (sym (added_more k _ _ _ _ c.loop-k-test.true)))

pub overflow_mul-acc : goal.overflow_mul-acc
overflow_mul-acc c = sized-fits (omega arith) (product c)

pub overflow_add-acc : goal.overflow_add-acc
overflow_add-acc c = sized-fits (omega arith) (summed c)

pub loop-k-preserved : goal.loop-k-preserved
loop-k-preserved c = kept w64 (omega arith) (summed c)

pub returns : goal.returns
unfolding sum_of
returns c =
    let e : c.loop-k.k ≡ length c.args.values.now = omega arith in
    sized-at (sized-le (omega arith) c.loop-k.invariant) (rw (e, take-length))
