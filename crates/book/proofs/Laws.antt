-- The ways of reading a whole book, beside those of the cursor's steps.
use Prim.Native.Nat.{ℕ, zero, suc, ◌+◌, ◌-◌, ◌≤◌, ◌<◌}
use native.Mathlib.Omega.{arith}
use native.Mathlib.Numerals.{sub-one}
use mathlib.Core.Path.{◌≡◌, sym}
use mathlib.Core.List.{List}
use mathlib.Core.Bool.{true, false}
use lib.ListN.{length, take}
use lib.Seq.{length-take-le}
use lib.Dec.{eqb}
use lib.IntN.{ℤ}
use lib.Signed.{lt_z}
use mir.Syntax.{w32}
use mir.Val.{to_z, of_z, SFits}
use mir.ValLaws.{to_z-of_z}
use Rattle.cursor.specs.declared.Cursor.{Cursor}
use Rattle.reply.specs.declared.Refusal.{Refusal}
use Rattle.reply.specs.Answer.{refuse}
use Rattle.cursor.specs.Steps.{pick, value_then}
use Rattle.cursor.proofs.Laws as cursors
use Rattle.book.specs.Read.{arity_at, arities_at, record_at, clauses_at}
use Rattle.std.specs.Prelude.{Ok, Err}
use Rattle.reply.specs.Then.{go_on}

module _ {A : Type 0} {x : A} where
  -- a signed result, which the code has by its bits
  pub value-signed : (n : ℤ) (go : ℤ → A) {m : ℤ} → m ≡ n → SFits w32 m → x ≡ go (to_z w32 (of_z w32 m)) → x ≡ value_then n go
  unfolding value_then
  value-signed n go {m} e f h = rw (← e) (rw (to_z-of_z w32 m f) at h)

  -- a test of two signed numbers, as the machine makes it of their bits
  pub if-less : (a b : ℤ) (y z : A) → SFits w32 a → SFits w32 b → lt_z (to_z w32 (of_z w32 a)) (to_z w32 (of_z w32 b)) ≡ true → x ≡ y → x ≡ pick (lt_z a b) y z
  unfolding pick
  if-less a b y z f g h e = rw (simp (to_z-of_z w32 a f, to_z-of_z w32 b g) at h) e

  pub if-not-less : (a b : ℤ) (y z : A) → SFits w32 a → SFits w32 b → lt_z (to_z w32 (of_z w32 a)) (to_z w32 (of_z w32 b)) ≡ false → x ≡ z → x ≡ pick (lt_z a b) y z
  unfolding pick
  if-not-less a b y z f g h e = rw (simp (to_z-of_z w32 a f, to_z-of_z w32 b g) at h) e

-- the arities that are left, after one was read, where it was not one, and after all
module _ (s : List ℕ) (q : ℕ) (c : Cursor) where
  pub arities-on : {d : Cursor} (k : ℕ) → 0 < k → Ok d ≡ arity_at s q c → arities_at (k - 1) s q d ≡ arities_at k s q c
  unfolding arities_at go_on
  arities-on zero h e = absurd (let z : ⊥ = omega arith in z)
  arities-on (suc k) h e = rw (← e, sub-one)

  pub arities-stop : {f : Refusal} (k : ℕ) → 0 < k → Err f ≡ arity_at s q c → Err f ≡ arities_at k s q c
  unfolding arities_at go_on
  arities-stop zero h e = absurd (let z : ⊥ = omega arith in z)
  arities-stop (suc k) h e = rw (← e)

  pub arities-end : (k : ℕ) → k ≤ 0 → Ok c ≡ arities_at k s q c
  unfolding arities_at
  arities-end k h = let z : k ≡ 0 = omega arith in rw z

-- the same of the records
module _ (s : List ℕ) (start n p : ℕ) (c : Cursor) where
  pub clauses-on : {d : Cursor} (k : ℕ) → 0 < k → Ok d ≡ record_at s start n p c → clauses_at (k - 1) s start n (p + 2) d ≡ clauses_at k s start n p c
  unfolding clauses_at go_on
  clauses-on zero h e = absurd (let z : ⊥ = omega arith in z)
  clauses-on (suc k) h e = rw (← e, sub-one)

  pub clauses-stop : {f : Refusal} (k : ℕ) → 0 < k → Err f ≡ record_at s start n p c → Err f ≡ clauses_at k s start n p c
  unfolding clauses_at go_on
  clauses-stop zero h e = absurd (let z : ⊥ = omega arith in z)
  clauses-stop (suc k) h e = rw (← e)

  pub clauses-end : (k : ℕ) → k ≤ 0 → clauses_at k s start n p c ≡ pick (eqb c.at start) (Ok c) (Err (refuse 4 c.at))
  unfolding clauses_at
  clauses-end k h = let z : k ≡ 0 = omega arith in rw z

-- the front of a slice
pub front_length : (j : ℕ) (l : List ℕ) → j ≤ length l → j ≡ length (take j l)
front_length j l h = sym (length-take-le j l h)

pub ruleset ways = (
  cursors.ways,
  value-signed,
  if-less,
  if-not-less,
)
