-- Decimal digits, the most significant first: read back in base ten they give the number, and there is no leading zero.
use Rattle.std.specs.Prelude.{◌≡◌, refl, List, [], ◌∷◌, ◌++◌, Bool, true, false, ℕ, zero, suc, ◌+◌, ◌-◌, ◌*◌, ◌/◌, ◌%◌, ◌^◌, ◌≤◌, ◌<◌, ltb, get_or, length}
use Rattle.std.proofs.Common.{sym, ap, ◌∙◌, pow-suc, arith, length-append, lt-ltb, le-ltb}
use Rattle.std.proofs.Math.Decide.{dec_lt}
use Rattle.std.proofs.Math.ListN.{get_or-append}

-- a where the test holds, else b
abbrev pub pick : Bool → List ℕ → List ℕ → List ℕ
pick true a b = a
pick false a b = b

-- at most k digits: the quotient's, then the last
unfoldable pub digits_up_to : ℕ → ℕ → List ℕ
digits_up_to zero n = []
digits_up_to (suc k) n = pick (ltb n 10) ((n + 48) ∷ []) (digits_up_to k (n / 10) ++ ((n % 10 + 48) ∷ []))

-- the digits of n, which has at most n + 1 of them
unfoldable pub digits : ℕ → List ℕ
digits n = digits_up_to (suc n) n

-- what digits read from the left as a base-ten number give, going on from a
unfoldable pub read_from : ℕ → List ℕ → ℕ
read_from a [] = a
read_from a (d ∷ t) = read_from (a * 10 + (d - 48)) t

-- ---- the two equations that the printer follows

-- room for more digits changes nothing
enough-step : (k j n : ℕ) → (10 ≤ n → digits_up_to k (n / 10) ≡ digits_up_to j (n / 10)) → Dec (n < 10) → digits_up_to (suc k) n ≡ digits_up_to (suc j) n
unfolding digits_up_to
enough-step k j n ih (yes l) = simp (lt-ltb n 10 l)
enough-step k j n ih (no g) =
    let h : 10 ≤ n = omega arith in
    simp (le-ltb n 10 h) (ap (λ (l : List ℕ). l ++ ((n % 10 + 48) ∷ [])) (ih h))

enough : (k j n : ℕ) → n < k → n < j → digits_up_to k n ≡ digits_up_to j n
enough zero j n p q = absurd (omega arith)
enough (suc k) zero n p q = absurd (omega arith)
enough (suc k) (suc j) n p q = enough-step k j n (λ h. enough k j (n / 10) (omega arith) (omega arith)) (dec_lt n 10)

pub digits-one : (n : ℕ) → n < 10 → digits n ≡ (n + 48) ∷ []
unfolding digits digits_up_to
digits-one n l = simp (lt-ltb n 10 l)

pub digits_more : (n : ℕ) → 10 ≤ n → digits n ≡ digits (n / 10) ++ ((n % 10 + 48) ∷ [])
unfolding digits digits_up_to
digits_more n h = simp (le-ltb n 10 h) (ap (λ (l : List ℕ). l ++ ((n % 10 + 48) ∷ [])) (enough n (suc (n / 10)) (n / 10) (omega arith) (omega arith)))

-- what holds of one digit, and of more if of the quotient's, holds of all digits
pub digits-by : (P : ℕ → List ℕ → Type 0) → ((n : ℕ) → n < 10 → P n ((n + 48) ∷ [])) →
    ((n : ℕ) (t : List ℕ) → 10 ≤ n → P (n / 10) t → P n (t ++ ((n % 10 + 48) ∷ []))) → (n : ℕ) → P n (digits n)
digits-by P one more n = below (suc n) n (omega arith)
  where
    split : (n : ℕ) → (10 ≤ n → P (n / 10) (digits (n / 10))) → Dec (n < 10) → P n (digits n)
    split n ih (yes l) = rw (digits-one n l) (one n l)
    split n ih (no g) = let h : 10 ≤ n = omega arith in rw (digits_more n h) (more n (digits (n / 10)) h (ih h))

    below : (k n : ℕ) → n < k → P n (digits n)
    below zero n p = absurd (omega arith)
    below (suc k) n p = split n (λ h. below k (n / 10) (omega arith)) (dec_lt n 10)

-- ---- the digits' fact, of any number

read-append : (s : List ℕ) (a d : ℕ) → read_from a (s ++ (d ∷ [])) ≡ read_from a s * 10 + (d - 48)
unfolding read_from
read-append [] a d = refl
read-append (x ∷ s) a d = read-append s (a * 10 + (x - 48)) d

-- read from the left they are n
pub read-digits : (n : ℕ) → read_from 0 (digits n) ≡ n
unfolding read_from
read-digits = digits-by (λ n t. read_from 0 t ≡ n) (λ n l. omega arith) (λ n t h e. rw (read-append t 0 (n % 10 + 48), e) (omega arith))

-- there is a digit, and the first of a number above zero is not 0
pub record Leads (n : ℕ) (t : List ℕ) : Type 0 where
  pub some : 0 < length t
  pub first : 0 < n → get_or t 0 0 ≡ 48 → ⊥

pub no-leading-zero : (n : ℕ) → Leads n (digits n)
no-leading-zero = digits-by Leads
    (λ n l. record { some = omega arith; first = λ p e. omega arith })
    (λ n t h w. record {
      some = omega (arith, length-append t ((n % 10 + 48) ∷ []), w.some);
      first = λ p e. w.first (omega arith) (sym (get_or-append t ((n % 10 + 48) ∷ []) 0 0 w.some) ∙ e);
    })

-- ---- their number

-- a number below 10 ^ k has at most k digits, and at least one
pub digits-size : (k n : ℕ) → n < 10 ^ suc k → length (digits n) ≤ suc k
digits-size k n = digits-by (λ n t. (k : ℕ) → n < 10 ^ suc k → length t ≤ suc k) (λ n l k h. omega arith) more n k
  where
    more : (n : ℕ) (t : List ℕ) → 10 ≤ n → ((k : ℕ) → n / 10 < 10 ^ suc k → length t ≤ suc k) → (k : ℕ) → n < 10 ^ suc k → length (t ++ ((n % 10 + 48) ∷ [])) ≤ suc k
    more n t h ih zero l = absurd (let z : ⊥ = omega arith in z)
    more n t h ih (suc k) l =
        let e : 10 ^ suc (suc k) ≡ 10 ^ suc k * 10 = pow-suc 10 (suc k) in
        omega (arith, length-append t ((n % 10 + 48) ∷ []), ih k (omega arith))
