-- The number of a step's answer settles it: who keeps the number alone can tell the place afterwards.
use Rattle.std.specs.Prelude.{◌≡◌, ◌≢◌, ◌⊎◌, Bool, List, take, eqb, ℤ}
use Rattle.std.proofs.Math.Path.{refl}
use Rattle.std.proofs.Math.Logic.{inl, inr}
use Rattle.std.proofs.Math.Bool.{true, false}
use Prim.Native.Nat.{ℕ, zero, suc, ◌+◌, ◌≤◌}
use native.Mathlib.Omega.{arith}
use Rattle.std.proofs.Common.{ne_eqb}
use Rattle.meaning.specs.Book.{Book, variable_window}
use Rattle.reply.specs.Answer.{Answer, ok, refused, number, need, and_then}
use Rattle.lists.specs.Compare.{first_out}
use Rattle.lists.specs.Instance.{clause_at, judge_clause, judge, judge_enabled}

-- a refusal is at the step's place i, but 14 at q, the first value outside its window
abbrev placed : ℕ → ℕ → ℕ → ℕ
placed i q n = elim (eqb n 14) [ true ↦ q | false ↦ i ]

abbrev settled : ℕ → ℕ → ℕ → Answer
settled i q zero = ok
settled i q (suc n) = refused (suc n) (placed i q (suc n))

module _ (i q : ℕ) where
  abbrev tests : Bool → Bool → Bool → Bool → Bool → Answer
  tests t₁ t₂ t₃ t₄ t₅ = and_then (need t₁ 12 i (need t₂ 13 i (need t₃ 14 q (need t₄ 15 i ok)))) (need t₅ 16 i ok)

  -- one of six answers
  tests-settled : (t₁ t₂ t₃ t₄ t₅ : Bool) → let n = number (tests t₁ t₂ t₃ t₄ t₅) in (tests t₁ t₂ t₃ t₄ t₅ ≡ settled i q n) × ((n ≡ 0) ⊎ ((12 ≤ n) × (n ≤ 16)))
  unfolding need and_then
  tests-settled false t₂ t₃ t₄ t₅ = (refl, inr (omega arith, omega arith))
  tests-settled true false t₃ t₄ t₅ = (refl, inr (omega arith, omega arith))
  tests-settled true true false t₄ t₅ = (refl, inr (omega arith, omega arith))
  tests-settled true true true false t₅ = (refl, inr (omega arith, omega arith))
  tests-settled true true true true false = (refl, inr (omega arith, omega arith))
  tests-settled true true true true true = (refl, inl refl)

module _ (b : Book) (k : ℕ) (l : List ℤ) (i : ℕ) where
  -- the place of the first value outside its window
  abbrev pub outside : ℕ
  outside = first_out (variable_window b (clause_at b k)) (i + 1) (take (clause_at b k).vars l)

  -- the place of the refusal with number n
  unfoldable pub refusal_place : ℕ → ℕ
  refusal_place n = placed i outside n

  pub refusal-out : refusal_place 14 ≡ outside
  unfolding refusal_place
  refusal-out = refl

  pub refusal-here : (n : ℕ) → n ≢ 14 → refusal_place n ≡ i
  unfolding refusal_place
  refusal-here n h = rw (ne_eqb n 14 h, placed)

module _ (b : Book) (k more : ℕ) (l : List ℤ) (i : ℕ) (met : Bool) where
  six : let n = number (judge_enabled b k more l i met) in (judge_enabled b k more l i met ≡ settled i (outside b k l i) n) × ((n ≡ 0) ⊎ ((12 ≤ n) × (n ≤ 16)))
  unfolding judge_enabled judge judge_clause
  six = tests-settled i _ _ _ _ _ met

  -- it is 0 or one of 12 to 16
  pub enabled-number : let n = number (judge_enabled b k more l i met) in (n ≡ 0) ⊎ ((12 ≤ n) × (n ≤ 16))
  enabled-number = six.1

  pub enabled-zero : number (judge_enabled b k more l i met) ≡ 0 → judge_enabled b k more l i met ≡ ok
  enabled-zero e = rw e at six.0

  pub enabled-refused : (n : ℕ) → number (judge_enabled b k more l i met) ≡ n → n ≢ 0 → judge_enabled b k more l i met ≡ refused n (refusal_place b k l i n)
  unfolding refusal_place
  enabled-refused zero e h = absurd (h refl)
  enabled-refused (suc n) e h = rw e at six.0
