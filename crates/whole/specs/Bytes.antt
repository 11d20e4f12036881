-- Little-endian numbers of two and of four bytes, unsigned and signed: out of a list of bytes, and as bytes.
use Rattle.std.specs.Prelude.{ℕ, ◌+◌, ◌*◌, ◌/◌, ◌%◌, ◌<◌, ◌≡◌, List, [], ◌∷◌, ◌++◌, length, get_or, take, ℤ}
use Rattle.std.proofs.Common.{mod-lt, mod-eq_of_lt, div-add-mod', div-lt_iff_lt-mul, zero-add, arith, ap, ◌∙◌, length-take, get_or-take, to_z, of_z}
use Rattle.std.proofs.Math.Nat.{div-eq_of_lt, add-mul-mod_self_right, add-mul-div_right}
use Rattle.std.specs.Int.{w16, w32}

-- the number that starts at byte p
unfoldable pub u16_at : List ℕ → ℕ → ℕ
u16_at s p = get_or s p 0 + get_or s (p + 1) 0 * 256

unfoldable pub u32_at : List ℕ → ℕ → ℕ
u32_at s p = u16_at s p + u16_at s (p + 2) * 65536

-- two's complement of 16 and of 32 bits
unfoldable pub i16_at : List ℕ → ℕ → ℤ
i16_at s p = to_z w16 (u16_at s p)

unfoldable pub i32_at : List ℕ → ℕ → ℤ
i32_at s p = to_z w32 (u32_at s p)

-- a byte of the front of a list is that byte of the list
pub front-byte : (s : List ℕ) (j i : ℕ) → i < length (take j s) → (i < length s) × (get_or (take j s) i 0 ≡ get_or s i 0)
front-byte s j i h = let z = length-take j s in (omega arith, get_or-take j s i 0 (omega arith))

-- a number as bytes, the low one first
unfoldable pub u16_bytes : ℕ → List ℕ
u16_bytes n = n % 256 ∷ n / 256 ∷ []

unfoldable pub u32_bytes : ℕ → List ℕ
u32_bytes n = u16_bytes (n % 65536) ++ u16_bytes (n / 65536)

unfoldable pub i16_bytes : ℤ → List ℕ
i16_bytes z = u16_bytes (of_z w16 z)

unfoldable pub i32_bytes : ℤ → List ℕ
i32_bytes z = u32_bytes (of_z w32 z)

-- ---- two digits of any base: the low one, and the rest. Bytes pair up to 16 bits, and these to 32.
module _ (base : ℕ) (some : 0 < base) where
  pub joined-low : (a b : ℕ) → a < base → (a + b * base) % base ≡ a
  joined-low a b h = add-mul-mod_self_right a b base ∙ mod-eq_of_lt h

  pub joined-high : (a b : ℕ) → a < base → (a + b * base) / base ≡ b
  joined-high a b h = add-mul-div_right a b some ∙ ap (λ (n : ℕ). n + b) (div-eq_of_lt h) ∙ zero-add b

  pub joined : (n : ℕ) → n % base + n / base * base ≡ n
  joined n = let e = div-add-mod' n base in omega arith

  pub low_below : (n : ℕ) → n % base < base
  low_below n = mod-lt n some

  pub high-below : (n top : ℕ) → n < top * base → n / base < top
  high-below n top h = (div-lt_iff_lt-mul some).1 h
