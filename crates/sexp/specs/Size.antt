-- Bounds on the length of the text.
use Rattle.std.specs.Prelude.{List, ◌∷◌, ◌≡◌, ℕ, zero, suc, ◌+◌, ◌*◌, ◌≤◌, ◌<◌, length}
use Rattle.std.proofs.Common.{suc-mul, arith, length-append}
use Rattle.sexp.specs.Sexp.{Sexp, Sexps, word, list, end, ◌&◌, ◌⧺◌, onto, inside, spaced, lines_onto, lines, each}

-- each S-expression with what separates it from the next
unfoldable mutual
  pub cost : Sexp → ℕ
  cost (word t) = length t
  cost (list xs) = suc (suc (costs xs))

  pub costs : Sexps → ℕ
  costs end = 0
  costs (x & xs) = suc (cost x + costs xs)

mutual
  unfolding onto cost

  onto-size : (x : Sexp) (k : List ℕ) → length (onto x k) ≤ cost x + length k
  onto-size (word t) k = omega (arith, length-append t k)
  onto-size (list xs) k = omega (arith, inside-size xs k)

  inside-size : (xs : Sexps) (k : List ℕ) → length (inside xs k) ≤ suc (costs xs + length k)
  inside-size end k = omega arith
  inside-size (x & xs) k = omega (arith, onto-size x (spaced xs (41 ∷ k)), spaced-size xs (41 ∷ k))

  spaced-size : (xs : Sexps) (k : List ℕ) → length (spaced xs k) ≤ costs xs + length k
  spaced-size end k = omega arith
  spaced-size (x & xs) k = omega (arith, onto-size x (spaced xs k), spaced-size xs k)

pub lines-size : (xs : Sexps) → length (lines xs) ≤ costs xs
unfolding lines_onto cost
lines-size end = omega arith
lines-size (x & xs) = omega (arith, onto-size x (10 ∷ lines xs), lines-size xs)

pub costs-and : (xs ys : Sexps) → costs (xs ⧺ ys) ≡ costs xs + costs ys
unfolding cost ◌⧺◌
costs-and end ys = omega arith
costs-and (x & xs) ys = omega (arith, costs-and xs ys)

pub costs-each : (n b : ℕ) (f : ℕ → Sexps) → ((i : ℕ) → i < n → costs (f i) ≤ b) → costs (each n f) ≤ n * b
unfolding cost each
costs-each zero b f h = omega arith
costs-each (suc n) b f h = omega (arith, suc-mul n b, costs-and (each n f) (f n), costs-each n b f (λ i l. h i (omega arith)), h n (omega arith))
