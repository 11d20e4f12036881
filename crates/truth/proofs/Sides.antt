-- The sides that wait, as a number and as a list.
use Prim.Native.Nat.{ℕ, ◌+◌, ◌*◌, ◌/◌, ◌%◌, ◌^◌, ◌<◌, ◌≤◌}
use native.Mathlib.Nat.{pow-suc, pow-le-pow_right}
use native.Mathlib.Omega.{arith}
use mathlib.Core.Path.{◌≡◌, refl, sym, ap, ◌∙◌}
use mathlib.Core.List.{List, [], ◌∷◌}
use mathlib.Core.Bool.{Bool, true, false, beq}
use borrow.Author.Tests.{lt-ltb, le-ltb, eq-eqb, ne_eqb}
use lib.ListN.{length}
use lib.Dec.{eqb, ltb}
use Rattle.cursor.specs.Steps.{pick}
use Rattle.truth.specs.declared.Waiting.{Waiting}
use Rattle.truth.specs.Sides.{Side, bits_of, code, until, Opened}

pub bits_small : (a b : Bool) → bits_of a b < 4
unfolding bits_of
bits_small true true = omega arith
bits_small true false = omega arith
bits_small false true = omega arith
bits_small false false = omega arith

-- two bits in front of a number
module _ (n : ℕ) where
  front-first : (a b : Bool) → ltb 1 ((n * 4 + bits_of a b) % 4) ≡ a
  unfolding bits_of
  front-first true true = lt-ltb 1 ((n * 4 + 3) % 4) (omega arith)
  front-first true false = lt-ltb 1 ((n * 4 + 2) % 4) (omega arith)
  front-first false true = le-ltb 1 ((n * 4 + 1) % 4) (omega arith)
  front-first false false = le-ltb 1 ((n * 4 + 0) % 4) (omega arith)

  front-want : (a b : Bool) → eqb ((n * 4 + bits_of a b) % 2) 1 ≡ b
  unfolding bits_of
  front-want true true = eq-eqb ((n * 4 + 3) % 2) 1 (omega arith)
  front-want true false = ne_eqb ((n * 4 + 2) % 2) 1 (λ e. omega arith)
  front-want false true = eq-eqb ((n * 4 + 1) % 2) 1 (omega arith)
  front-want false false = ne_eqb ((n * 4 + 0) % 2) 1 (λ e. omega arith)

pub code-some : (fs : List Side) → 0 < code fs
unfolding code
code-some [] = omega arith
code-some (f ∷ fs) = omega (arith, code-some fs)

-- a number above 3 has a side in front
module _ (f : Side) (fs : List Side) where
  pub code-more : 4 ≤ code (f ∷ fs)
  unfolding code
  code-more = omega (arith, code-some fs)

  pub code-rest : code (f ∷ fs) / 4 ≡ code fs
  unfolding code
  code-rest = omega (arith, bits_small f.first f.want)

  pub code-first : ltb 1 (code (f ∷ fs) % 4) ≡ f.first
  unfolding code
  code-first = front-first (code fs) f.first f.want

  pub code-want : eqb (code (f ∷ fs) % 2) 1 ≡ f.want
  unfolding code
  code-want = front-want (code fs) f.first f.want

-- sixteen sides fit
pub code-bound : (fs : List Side) → code fs < 2 * 4 ^ length fs
unfolding code
code-bound [] = omega arith
code-bound (f ∷ fs) = omega (arith, code-bound fs, bits_small f.first f.want, pow-suc 4 (length fs))

pub code_fits : (fs : List Side) → length fs ≤ 16 → code fs < 8589934592
code_fits fs h = omega (arith, code-bound fs, pow-le-pow_right {n = 4} (omega arith) {i = length fs} {j = 16} h)

-- ---- looking for a side

module _ (t : Bool) (f : Side) (fs : List Side) (n : ℕ) where
  pub until-here : beq t f.first ≡ true → until t (f ∷ fs) n ≡ record { sides = code (f ∷ fs); passed = n }
  unfolding until pick
  until-here e = rw e

  pub until-on : beq t f.first ≡ false → until t (f ∷ fs) n ≡ until t fs (n + 1)
  unfolding until pick
  until-on e = rw e

-- the number is a list's, and looking on from it finds the same
pub record Same (t : Bool) (rest passed : ℕ) (x : Waiting) : Type 0 where
  pub list : List Side
  pub is : rest ≡ code list
  pub finds : until t list passed ≡ x

-- the code's test is whether the side in front counts
front : (t : Bool) (rest : ℕ) {b : Bool} (f : Side) (fs : List Side) → beq t (ltb 1 (rest % 4)) ≡ b → rest ≡ code (f ∷ fs) → beq t f.first ≡ b
front t rest f fs e q = rw (q, code-first f fs) at e

module _ (t : Bool) (rest passed : ℕ) {x : Waiting} (w : Same t rest passed x) where
  module _ (l : 3 < rest) where
    same_next : beq t (ltb 1 (rest % 4)) ≡ false → Same t (rest / 4) (passed + 1) x
    unfolding code
    same_next e = go w.list w.is w.finds
      where
        go : (fs : List Side) → rest ≡ code fs → until t fs passed ≡ x → Same t (rest / 4) (passed + 1) x
        go [] p q = absurd (let z : ⊥ = omega arith in z)
        go (f ∷ fs) p q = record {
          list = fs;
          is = ap (λ (r : ℕ). r / 4) p ∙ code-rest f fs;
          finds = sym (until-on t f fs passed (front t rest f fs e p)) ∙ q;
        }

    same-found : beq t (ltb 1 (rest % 4)) ≡ true → record { sides = rest; passed = passed } ≡ x
    unfolding code
    same-found e = go w.list w.is w.finds
      where
        go : (fs : List Side) → rest ≡ code fs → until t fs passed ≡ x → record { sides = rest; passed = passed } ≡ x
        go [] p q = absurd (let z : ⊥ = omega arith in z)
        go (f ∷ fs) p q = ap (λ (r : ℕ). record { sides = r; passed = passed }) p ∙ sym (until-here t f fs passed (front t rest f fs e p)) ∙ q

  same_none : rest ≤ 3 → record { sides = rest; passed = passed } ≡ x
  unfolding code until
  same_none l = go w.list w.is w.finds
    where
      go : (fs : List Side) → rest ≡ code fs → until t fs passed ≡ x → record { sides = rest; passed = passed } ≡ x
      go [] p q = ap (λ (r : ℕ). record { sides = r; passed = passed }) p ∙ q
      go (f ∷ fs) p q = absurd (let z : ⊥ = omega (arith, code-some fs) in z)

pub record Looks (sides : ℕ) (t : Bool) (rest passed : ℕ) : Type 0 where
  pub each : (fs : List Side) → sides ≡ code fs → Same t rest passed (until t fs 0)
  pub count : passed + rest ≤ sides

pub looks-first : (sides : ℕ) (t : Bool) → Looks sides t sides 0
looks-first sides t = record { each = λ fs e. record { list = fs; is = e; finds = refl }; count = omega arith }

module _ (sides : ℕ) (t : Bool) (rest passed : ℕ) (w : Looks sides t rest passed) where
  module _ (l : 3 < rest) where
    pub looks-next : beq t (ltb 1 (rest % 4)) ≡ false → Looks sides t (rest / 4) (passed + 1)
    looks-next e = record { each = λ fs z. same_next t rest passed (w.each fs z) l e; count = omega (arith, w.count) }

    pub looks-found : beq t (ltb 1 (rest % 4)) ≡ true → Opened sides t (record { sides = rest; passed = passed })
    looks-found e = record { is = λ fs z. same-found t rest passed (w.each fs z) l e }

  pub looks-none : rest ≤ 3 → Opened sides t (record { sides = rest; passed = passed })
  looks-none l = record { is = λ fs z. same_none t rest passed (w.each fs z) l }

pub ruleset looking = (looks-first, looks-next, looks-found, looks-none)
