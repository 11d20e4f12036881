-- Laws of whole numbers. A bound on a whole number is one on its `nat_abs`, a number that `omega` reads.
use Rattle.std.specs.Prelude.{◌≡◌, refl, ◌⊎◌, Bool, true, false, ℕ, zero, suc, ◌+◌, ◌*◌, ◌-◌, ◌^◌, ◌≤◌, ◌<◌, T, ltb, leb, ℤ, pos, negsuc, neg_ℤ, nat_abs, ◌+ℤ◌, ◌-ℤ◌, ◌*ℤ◌, ◌≤ℤ◌, ◌<ℤ◌}
use Rattle.std.proofs.Common.{sym, ap, ap₂, ◌∙◌, subst, inl, inr, ⊎_elim, le_refl, le_trans, lt_of_le_of_lt, lt_of_lt_of_le, mul-le-mul, not-suc-le-zero, zero-add, arith, lt-ltb, le-ltb, ltb-true, ltb-false, ltb→lt, leb→le, to_z-of_z}
use Rattle.std.proofs.Math.Nat.{le-suc, pow-le-pow_right}
use Rattle.std.proofs.Math.IntN.{sub_ℕ, suc_ℤ, +ℤ_one}
use Rattle.std.specs.Int.Signed.{mag, nat_abs-le, lt_z, non_neg}
use Rattle.std.specs.Int.{Width, w64}
use mir.Val.{SFits, Fits, bits, hbits, to_z, of_z}
use Rattle.std.proofs.Math.Facts.{to_z_pos, to_z-neg, sfits_to_z, sfits_widen}
use mir.ValLaws.{pow-bits}

pub lt-or-le : (a b : ℕ) → (a < b) ⊎ (b ≤ a)
lt-or-le a b = go (ltb a b) refl
  where
    go : (t : Bool) → ltb a b ≡ t → (a < b) ⊎ (b ≤ a)
    go true e = inl (ltb-true a b e)
    go false e = inr (ltb-false a b e)

-- a − b of two naturals, by their order
pub subℕ-lt : (a b : ℕ) → a < b → sub_ℕ a b ≡ negsuc (b - suc a)
subℕ-lt a b h = rw (lt-ltb a b h)

pub subℕ-ge : (a b : ℕ) → b ≤ a → sub_ℕ a b ≡ pos (a - b)
subℕ-ge a b h = rw (le-ltb a b h)

pub sub-pos : (a b : ℕ) → pos a -ℤ pos b ≡ sub_ℕ a b
sub-pos a zero = ap pos (omega arith) ∙ sym (subℕ-ge a zero (omega arith))
sub-pos a (suc b) = refl

-- the size of a sum and of a product
nat_abs-subℕ : (a b : ℕ) → nat_abs (sub_ℕ a b) ≤ a + b
nat_abs-subℕ a b = ⊎_elim (λ h. rw (subℕ-lt a b h) (omega arith)) (λ h. rw (subℕ-ge a b h) (omega arith)) (lt-or-le a b)

pub nat_abs-+ : (a b : ℤ) → nat_abs (a +ℤ b) ≤ nat_abs a + nat_abs b
nat_abs-+ (pos a) (pos b) = le_refl (a + b)
nat_abs-+ (pos a) (negsuc b) = nat_abs-subℕ a (suc b)
nat_abs-+ (negsuc a) (pos b) = omega (arith, nat_abs-subℕ b (suc a))
nat_abs-+ (negsuc a) (negsuc b) = omega arith

pub nat_abs-neg : (a : ℤ) → nat_abs (neg_ℤ a) ≡ nat_abs a
nat_abs-neg (pos zero) = refl
nat_abs-neg (pos (suc n)) = refl
nat_abs-neg (negsuc n) = refl

pub nat_abs-* : (a b : ℤ) → nat_abs (a *ℤ b) ≡ nat_abs a * nat_abs b
nat_abs-* (pos a) (pos b) = refl
nat_abs-* (pos a) (negsuc b) = nat_abs-neg (pos (a * suc b))
nat_abs-* (negsuc a) (pos b) = nat_abs-neg (pos (suc a * b))
nat_abs-* (negsuc a) (negsuc b) = refl

-- a number's size and what a width holds
mag-nat_abs : (z : ℤ) → mag z ≤ nat_abs z
mag-nat_abs (pos n) = le_refl n
mag-nat_abs (negsuc n) = omega arith

fits-abs : {w : Width} {z : ℤ} → nat_abs z < 2 ^ hbits w → SFits w z
fits-abs {z = z} h = record { sfits = lt_of_le_of_lt (mag-nat_abs z) h }

-- two numbers below half a width's power, as signed ones: their difference
pub to_z-diff : (w : Width) (a b : ℕ) → a < 2 ^ hbits w → b < 2 ^ hbits w → to_z w a -ℤ to_z w b ≡ sub_ℕ a b
to_z-diff w a b ha hb = ap₂ (λ (x y : ℤ). x -ℤ y) (to_z_pos w ha) (to_z_pos w hb) ∙ sub-pos a b

-- an operation's need and its result: what the machine computes is z, and z is the number x of the specification, which fits
pub sfits-is : {w : Width} {z x : ℤ} → z ≡ x → SFits w x → SFits w z
sfits-is {w = w} e f = subst (SFits w) (sym e) f

pub back : {w : Width} {z x : ℤ} → z ≡ x → SFits w x → to_z w (of_z w z) ≡ x
back {w = w} e f = ap (λ (y : ℤ). to_z w (of_z w y)) e ∙ to_z-of_z f

-- the same where z is a call's result or a slice's element, whose bound the logic has as a plain `<`: `c.f.ok`, `c.shared_slice_known-1.given i`
pub own : (w : Width) (z : ℤ) → mag z < 2 ^ hbits w → to_z w (of_z w z) ≡ z
own w z h = to_z-of_z (record { sfits = h })

-- z lies in −n..n. A record, so that z can be inferred and `omega` reads the field
pub record Small (z : ℤ) (n : ℕ) : Type 0 where
  pub abs : nat_abs z ≤ n

pub small-+ : {a b : ℤ} {A B : ℕ} → Small a A → Small b B → Small (a +ℤ b) (A + B)
small-+ {a} {b} p q = record { abs = omega (arith, nat_abs-+ a b) }

pub small-* : {a b : ℤ} {A B : ℕ} → Small a A → Small b B → Small (a *ℤ b) (A * B)
small-* {a} {b} {A} {B} p q = record { abs = rw (nat_abs-* a b) (mul-le-mul p.abs q.abs) }

pub small-neg : {a : ℤ} {A : ℕ} → Small a A → Small (neg_ℤ a) A
small-neg {a} p = record { abs = rw (nat_abs-neg a) p.abs }

pub small-le : {a : ℤ} {A B : ℕ} → A ≤ B → Small a A → Small a B
small-le h p = record { abs = le_trans p.abs h }

pub small-fits : {w : Width} {z : ℤ} {n : ℕ} → n < 2 ^ hbits w → Small z n → SFits w z
small-fits h p = fits-abs (lt_of_le_of_lt p.abs h)

pub fits-small : {w : Width} {z : ℤ} → SFits w z → Small z (2 ^ hbits w)
fits-small {z = z} f = record { abs = nat_abs-le z f.sfits }

-- a result r that is the number x of the specification, of size at most b
pub record Sized (x : ℤ) (b : ℕ) (r : ℤ) : Type 0 where
  pub is : r ≡ x
  pub small : Small x b

-- a call's result, as the machine reads it back from its bits
pub read : (w : Width) {r x : ℤ} {b : ℕ} → mag r < 2 ^ hbits w → Sized x b r → Sized x b (to_z w (of_z w r))
read w {r} h z = record { is = own w r h ∙ z.is; small = z.small }

-- what an operation gives is the number x, which is small
pub made : (w : Width) {z x : ℤ} {b : ℕ} → b < 2 ^ hbits w → z ≡ x → Small x b → Sized x b (to_z w (of_z w z))
made w h e s = record { is = back e (small-fits h s); small = s }

pub sized-at : {r x y : ℤ} {b : ℕ} → Sized x b r → x ≡ y → Sized y b r
sized-at {b = b} z e = record { is = z.is ∙ e; small = subst (λ (x : ℤ). Small x b) e z.small }

-- a test x < y that failed
pub non_neg-of : (z : ℤ) → lt_z z (pos 0) ≡ false → T (non_neg z)
non_neg-of (pos n) e = tt
non_neg-of (negsuc n) e = subst T e tt

-- ---- arithmetic on sized numbers: the machine's r and q are the specification's x and y, so their sum is the sum, and fits where the bound does

pub sized-+ : {x y r q : ℤ} {A B : ℕ} → Sized x A r → Sized y B q → Sized (x +ℤ y) (A + B) (r +ℤ q)
sized-+ p q = record { is = ap₂ (λ (a b : ℤ). a +ℤ b) p.is q.is; small = small-+ p.small q.small }

pub sized-- : {x y r q : ℤ} {A B : ℕ} → Sized x A r → Sized y B q → Sized (x -ℤ y) (A + B) (r -ℤ q)
sized-- p q = record { is = ap₂ (λ (a b : ℤ). a -ℤ b) p.is q.is; small = small-+ p.small (small-neg q.small) }

pub sized-* : {x y r q : ℤ} {A B : ℕ} → Sized x A r → Sized y B q → Sized (x *ℤ y) (A * B) (r *ℤ q)
sized-* p q = record { is = ap₂ (λ (a b : ℤ). a *ℤ b) p.is q.is; small = small-* p.small q.small }

pub sized-le : {x r : ℤ} {A B : ℕ} → A ≤ B → Sized x A r → Sized x B r
sized-le h p = record { is = p.is; small = small-le h p.small }

-- what an operation asks, and what its result is when it is read back
pub sized-fits : {w : Width} {x r : ℤ} {n : ℕ} → n < 2 ^ hbits w → Sized x n r → SFits w r
sized-fits h p = sfits-is p.is (small-fits h p.small)

pub kept : (w : Width) {x r : ℤ} {n : ℕ} → n < 2 ^ hbits w → Sized x n r → Sized x n (to_z w (of_z w r))
kept w h p = made w h p.is p.small

-- a parameter, as the machine reads it from its bits
pub param : {w : Width} {x : ℤ} → SFits w x → Sized x (2 ^ hbits w) (to_z w (of_z w x))
param f = record { is = to_z-of_z f; small = fits-small f }

pub self : {x : ℤ} {n : ℕ} → Small x n → Sized x n x
self s = record { is = refl; small = s }

pub sized-small : {x r : ℤ} {n : ℕ} → Sized x n r → Small r n
sized-small {n = n} p = subst (λ (z : ℤ). Small z n) (sym p.is) p.small

-- a number of the source, as 0
pub lit : (x : ℤ) → Sized x (nat_abs x) x
lit x = record { is = refl; small = record { abs = le_refl (nat_abs x) } }

-- a cast to an unsigned type: what it asks, and what it gives
pub unsigned : (w : Width) {x r : ℤ} {n : ℕ} → n < 2 ^ bits w → T (non_neg x) → Sized x n r → T (non_neg r) × Fits w (nat_abs r)
unsigned w {x} {r} h t p = subst (λ (z : ℤ). T (non_neg z) × Fits w (nat_abs z)) (sym p.is) (t, record { fits = lt_of_le_of_lt p.small.abs h })

pub unsigned_is : {x r : ℤ} {n : ℕ} → Sized x n r → nat_abs r ≡ nat_abs x
unsigned_is p = ap nat_abs p.is

-- ---- signs and tests

-- a failed or passed test against 0 says which constructor: rewriting by these makes definitions by cases compute
pub neg_is : (z : ℤ) → lt_z z (pos 0) ≡ true → z ≡ negsuc (nat_abs z - 1)
neg_is (pos n) e = absurd (not-suc-le-zero (ltb-true n 0 e))
neg_is (negsuc n) e = ap negsuc (omega arith)

pub pos-is : (z : ℤ) → lt_z z (pos 0) ≡ false → z ≡ pos (nat_abs z)
pos-is (pos n) e = refl
pos-is (negsuc n) e = absurd (subst T e tt)

pub minus-neg : (z : ℤ) → lt_z z (pos 0) ≡ true → pos 0 -ℤ z ≡ pos (nat_abs z)
minus-neg (pos n) e = absurd (not-suc-le-zero (ltb-true n 0 e))
minus-neg (negsuc n) e = ap pos (zero-add (suc n))

-- what a test `a == b` says, which is of the bits
pub of_z-inj : {w : Width} {a b : ℤ} → SFits w a → SFits w b → of_z w a ≡ of_z w b → a ≡ b
of_z-inj {w = w} f g e = sym (to_z-of_z f) ∙ ap (to_z w) e ∙ to_z-of_z g

-- what lies above a number leaves room for one more
pub fits_next : {w : Width} {x hi : ℤ} → SFits w x → SFits w hi → x <ℤ hi → SFits w (x +ℤ pos 1)
fits_next {w} {x} {hi} f g h = sfits-is (+ℤ_one x) (go x hi f g h)
  where
    go : (x hi : ℤ) → SFits w x → SFits w hi → x <ℤ hi → SFits w (suc_ℤ x)
    go (pos a) (pos b) f g h = record { sfits = lt_of_le_of_lt (ltb→lt a b h.lt) g.sfits }
    go (pos a) (negsuc b) f g h = absurd h.lt
    go (negsuc zero) hi f g h = record { sfits = f.sfits }
    go (negsuc (suc n)) hi f g h = record { sfits = lt_of_le_of_lt (le-suc n) f.sfits }

pub sub-nonneg : (lo hi : ℤ) → lo ≤ℤ hi → T (non_neg (hi -ℤ lo))
sub-nonneg (pos a) (pos b) h = rw (sub-pos b a, subℕ-ge b a (leb→le a b h.le)) tt
sub-nonneg (pos a) (negsuc b) h = absurd h.le
sub-nonneg (negsuc a) (pos b) h = tt
sub-nonneg (negsuc a) (negsuc b) h = let k : b ≤ a = leb→le b a h.le in rw (subℕ-ge (suc a) (suc b) (omega arith)) tt

-- ---- signed numbers

-- a result r that is the number x, which w bits hold
pub record Signed (w : Width) (x : ℤ) (r : ℤ) : Type 0 where
  pub is : r ≡ x
  pub fits : SFits w x

pub signed-sized : {w : Width} {x r : ℤ} → Signed w x r → Sized x (2 ^ hbits w) r
signed-sized p = record { is = p.is; small = fits-small p.fits }

-- two's complement: the bits n of a width w, whose highest is set, stand for n less the width's power; a wider x computes it and is cast down
module _ (w x : Width) {n : ℕ} (wider : T (leb (bits w) (hbits x))) (f : Fits w n) (high : 2 ^ hbits w ≤ n) where
  small : n < 2 ^ hbits x
  small = lt_of_lt_of_le f.fits (pow-le-pow_right (omega arith) (leb→le (bits w) (hbits x) wider))

  twos-is : to_z x n -ℤ pos (2 ^ bits w) ≡ to_z w n
  twos-is =
      let full : 2 ^ bits w ≡ 2 ^ hbits w + 2 ^ hbits w = pow-bits w ∙ omega arith in
      let same : 2 ^ bits w - suc (2 ^ bits w - suc n) ≡ n = omega (arith, f.fits) in
      ap (λ (z : ℤ). z -ℤ pos (2 ^ bits w)) (to_z_pos x small) ∙ sub-pos n (2 ^ bits w) ∙ subℕ-lt n (2 ^ bits w) f.fits
      ∙ sym (to_z-neg w (2 ^ bits w - suc n) (omega (arith, f.fits))) ∙ ap (to_z w) same

  pub twos-wide : SFits x (to_z x n -ℤ pos (2 ^ bits w))
  twos-wide = sfits-is twos-is (record { sfits = omega (arith, (sfits_to_z f).sfits, small) })

  pub twos-narrow : SFits w (to_z x (of_z x (to_z x n -ℤ pos (2 ^ bits w))))
  twos-narrow = sfits-is (to_z-of_z twos-wide ∙ twos-is) (sfits_to_z f)

  pub twos : to_z w (of_z w (to_z x (of_z x (to_z x n -ℤ pos (2 ^ bits w))))) ≡ to_z w n
  twos = back (to_z-of_z twos-wide ∙ twos-is) (sfits_to_z f)

-- a number r of w bits, cast to 64 bits
module _ (w : Width) (r : ℤ) (narrow : T (leb (hbits w) 63)) (h : mag r < 2 ^ hbits w) where
  pub widen-fits : SFits w64 (to_z w (of_z w r))
  widen-fits = sfits-is (own w r h) (sfits_widen {w = w} narrow (record { sfits = h }))

  pub widen : {z : ℤ} → r ≡ z → Signed w z (to_z w64 (of_z w64 (to_z w (of_z w r))))
  widen e = record { is = to_z-of_z widen-fits ∙ own w r h ∙ e; fits = subst (SFits w) e (record { sfits = h }) }
