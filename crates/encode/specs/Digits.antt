-- Numbers that stand in a list: what is read there is what was written, and bytes are what is read there, written.
use Rattle.std.specs.Prelude.{ℕ, ◌+◌, ◌%◌, ◌/◌, ◌≤◌, ◌<◌, ◌≡◌, refl, List, length, ℤ}
use native.Mathlib.Omega.{arith}
use Rattle.std.proofs.Math.Path.{sym}
use Rattle.std.proofs.Math.ListN.{get_or}
use mir.Syntax.{w16, w32}
use mir.Val.{Fits, SFits, of_z}
use Rattle.std.proofs.Common.{to_z-of_z}
use Rattle.std.proofs.Math.Facts.{of_z-to_z}
use Rattle.whole.specs.Bytes.{u16_at, u32_at, i16_at, i32_at, u16_bytes, u32_bytes, i16_bytes, i32_bytes, joined, joined-low, joined-high}
use Rattle.encode.specs.Stands.{Stands, Bytes, stands-split, stands-join}

-- ---- lengths

pub u16-length : (n : ℕ) → length (u16_bytes n) ≡ 2
unfolding u16_bytes
u16-length n = refl

pub u32-length : (n : ℕ) → length (u32_bytes n) ≡ 4
unfolding u32_bytes u16_bytes
u32-length n = refl

pub i16-length : (z : ℤ) → length (i16_bytes z) ≡ 2
unfolding i16_bytes
i16-length z = u16-length (of_z w16 z)

pub i32-length : (z : ℤ) → length (i32_bytes z) ≡ 4
unfolding i32_bytes
i32-length z = u32-length (of_z w32 z)

-- ---- what was written is read

module _ (s : List ℕ) where
  pub u16-read : (p n : ℕ) → Stands s p (u16_bytes n) → u16_at s p ≡ n
  unfolding Stands u16_bytes u16_at
  u16-read p n h = rw (h.1, h.2.1) (joined 256 (omega arith) n)

  pub u32-read : (p n : ℕ) → Stands s p (u32_bytes n) → u32_at s p ≡ n
  unfolding u32_bytes u32_at
  u32-read p n h =
      let r = stands-split s p (u16_bytes (n % 65536)) (u16_bytes (n / 65536)) h in
      rw (u16-read p _ r.0, u16-read (p + 2) _ (rw (u16-length (n % 65536)) at r.1)) (joined 65536 (omega arith) n)

  pub i16-read : (p : ℕ) (z : ℤ) → SFits w16 z → Stands s p (i16_bytes z) → i16_at s p ≡ z
  unfolding i16_bytes i16_at
  i16-read p z f h = rw (u16-read p (of_z w16 z) h) (to_z-of_z f)

  pub i32-read : (p : ℕ) (z : ℤ) → SFits w32 z → Stands s p (i32_bytes z) → i32_at s p ≡ z
  unfolding i32_bytes i32_at
  i32-read p z f h = rw (u32-read p (of_z w32 z) h) (to_z-of_z f)

-- ---- what is read in bytes is small, and the bytes are those that write it

module _ (s : List ℕ) (b : Bytes s) where
  pub u16-small : (p : ℕ) → p + 2 ≤ length s → u16_at s p < 65536
  unfolding u16_at
  u16-small p h = omega (arith, b.below p (omega arith), b.below (p + 1) (omega arith))

  pub u32-small : (p : ℕ) → p + 4 ≤ length s → u32_at s p < 4294967296
  unfolding u32_at
  u32-small p h = omega (arith, u16-small p (omega arith), u16-small (p + 2) (omega arith))

  pub u16-written : (p : ℕ) → p + 2 ≤ length s → Stands s p (u16_bytes (u16_at s p))
  unfolding Stands u16_bytes u16_at
  u16-written p h =
      let low : get_or s p 0 < 256 = b.below p (omega arith) in
      (omega arith, sym (joined-low 256 (omega arith) _ _ low), (omega arith, sym (joined-high 256 (omega arith) _ _ low), omega arith))

  pub u32-written : (p : ℕ) → p + 4 ≤ length s → Stands s p (u32_bytes (u32_at s p))
  unfolding u32_bytes u32_at
  u32-written p h =
      let low : u16_at s p < 65536 = u16-small p (omega arith) in
      rw (joined-low 65536 (omega arith) (u16_at s p) (u16_at s (p + 2)) low, joined-high 65536 (omega arith) (u16_at s p) (u16_at s (p + 2)) low)
      (stands-join s p (u16_bytes (u16_at s p)) (u16_bytes (u16_at s (p + 2))) (u16-written p (omega arith)) (rw u16-length (u16-written (p + 2) (omega arith))))

  pub i16-written : (p : ℕ) → p + 2 ≤ length s → Stands s p (i16_bytes (i16_at s p))
  unfolding i16_bytes i16_at
  i16-written p h =
      let f : Fits w16 (u16_at s p) = record { fits = u16-small p h } in
      rw (of_z-to_z f) (u16-written p h)

  pub i32-written : (p : ℕ) → p + 4 ≤ length s → Stands s p (i32_bytes (i32_at s p))
  unfolding i32_bytes i32_at
  i32-written p h =
      let f : Fits w32 (u32_at s p) = record { fits = u32-small p h } in
      rw (of_z-to_z f) (u32-written p h)
