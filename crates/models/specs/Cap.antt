-- Counts that stop at 1,000,001: whatever lies over a million is just over.
use Rattle.std.specs.Prelude.{◌≡◌, ℕ, zero, suc, ◌+◌, ◌*◌, ◌<◌, ◌≤◌, ltb}
use Rattle.std.proofs.Common.{sym, ◌∙◌, ⊎_elim, arith, lt-ltb, le-ltb}
use Rattle.whole.specs.Whole.{lt-or-le}
use Rattle.cursor.specs.Steps.{pick}

unfoldable pub cap : ℕ → ℕ
cap n = pick (ltb 1000000 n) 1000001 n

pub cap-small : (n : ℕ) → n ≤ 1000000 → cap n ≡ n
unfolding cap pick
cap-small n h = rw (le-ltb 1000000 n h)

pub cap-large : (n : ℕ) → 1000000 < n → cap n ≡ 1000001
unfolding cap pick
cap-large n h = rw (lt-ltb 1000000 n h)

pub cap-below : (n : ℕ) → cap n ≤ 1000001
cap-below n = ⊎_elim (λ h. omega (arith, cap-large n h)) (λ h. omega (arith, cap-small n h)) (lt-or-le 1000000 n)

-- one may stop early in a sum and in a product
pub cap-plus : (a b : ℕ) → cap (cap a + b) ≡ cap (a + b)
cap-plus a b = ⊎_elim
    (λ h. rw (cap-large a h) (cap-large (1000001 + b) (omega arith) ∙ sym (cap-large (a + b) (omega arith))))
    (λ h. rw (cap-small a h))
    (lt-or-le 1000000 a)

pub cap-times : (a b : ℕ) → cap (cap a * b) ≡ cap (a * b)
cap-times a zero = let x : cap a * 0 ≡ 0 = omega arith in let y : a * 0 ≡ 0 = omega arith in rw (x, y)
cap-times a (suc b) = ⊎_elim
    (λ h. rw (cap-large a h) (cap-large (1000001 * suc b) (omega arith) ∙ sym (cap-large (a * suc b) (omega arith))))
    (λ h. rw (cap-small a h))
    (lt-or-le 1000000 a)

-- the test against a million sees no difference
pub cap-test : (n : ℕ) → ltb 1000000 (cap n) ≡ ltb 1000000 n
cap-test n = ⊎_elim (λ h. rw (cap-large n h) (sym (lt-ltb 1000000 n h))) (λ h. rw (cap-small n h)) (lt-or-le 1000000 n)
