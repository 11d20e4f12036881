-- How a goal `x ≡ SPEC` is taken down the way that the code went: one law for each way out of a test or of a step.
use Prim.Native.Nat.{ℕ, zero, suc, ◌+◌, ◌-◌, ◌<◌, ◌≤◌}
use native.Mathlib.Omega.{arith}
use mathlib.Core.Path.{◌≡◌, refl, sym, ◌∙◌}
use lib.ListN.{length}
use mathlib.Core.List.{List}
use lib.Dec.{ltb, leb, eqb}
use borrow.Author.Tests.{lt-ltb, le-ltb, le-leb, lt-leb, eq-eqb, ne_eqb}
use Rattle.cursor.specs.declared.Cursor.{Cursor}
use Rattle.reply.specs.declared.Refusal.{Refusal}
use native.Mathlib.Numerals.{sub-one}
use Rattle.cursor.specs.Walk.{follow, constraint_at}
use Rattle.cursor.specs.Clause.{arguments_at}
use Rattle.cursor.specs.Inverse.{skip_read, relation-read}
use Rattle.reply.specs.Answer.{refuse}
use Rattle.cursor.specs.Steps.{pick, value_then, kinds, byte_at, node_at, variable_at, relation_at, skip_at, Read}
use Rattle.std.specs.Prelude.{Ok, Err}
use Rattle.reply.specs.Then.{go_on, ◌>>=◌, goes-on, stops}

module _ {A : Type 0} {x : A} where
  pub if-lt : (a b : ℕ) (y z : A) → a < b → x ≡ y → x ≡ pick (ltb a b) y z
  unfolding pick
  if-lt a b y z h e = rw (lt-ltb _ _ h) e

  pub if-ge : (a b : ℕ) (y z : A) → b ≤ a → x ≡ z → x ≡ pick (ltb a b) y z
  unfolding pick
  if-ge a b y z h e = rw (le-ltb _ _ h) e

  pub if-le : (a b : ℕ) (y z : A) → a ≤ b → x ≡ y → x ≡ pick (leb a b) y z
  unfolding pick
  if-le a b y z h e = rw (le-leb _ _ h) e

  pub if-gt : (a b : ℕ) (y z : A) → b < a → x ≡ z → x ≡ pick (leb a b) y z
  unfolding pick
  if-gt a b y z h e = rw (lt-leb _ _ h) e

  -- n more from a lie within b: the code's two tests
  pub fits_in : (a n b : ℕ) (y z : A) → a ≤ b → n ≤ b - a → x ≡ y → x ≡ pick (leb (a + n) b) y z
  fits_in a n b y z h k e = if-le (a + n) b y z (omega arith) e

  pub fits-past : (a n b : ℕ) (y z : A) → b < a → x ≡ z → x ≡ pick (leb (a + n) b) y z
  fits-past a n b y z h e = if-gt (a + n) b y z (omega arith) e

  pub fits-over : (a n b : ℕ) (y z : A) → a ≤ b → b - a < n → x ≡ z → x ≡ pick (leb (a + n) b) y z
  fits-over a n b y z h k e = if-gt (a + n) b y z (omega arith) e

  pub if-eq : (a b : ℕ) (y z : A) → a ≡ b → x ≡ y → x ≡ pick (eqb a b) y z
  unfolding pick
  if-eq a b y z h e = rw (eq-eqb _ _ h) e

  pub if-ne : (a b : ℕ) (y z : A) → (a ≡ b → ⊥) → x ≡ z → x ≡ pick (eqb a b) y z
  unfolding pick
  if-ne a b y z h e = rw (ne_eqb _ _ h) e

  -- the same where the code's test goes by a number m that is b
  pub if-eq-by : (a b : ℕ) (y z : A) {m : ℕ} → a ≡ m → m ≡ b → x ≡ y → x ≡ pick (eqb a b) y z
  if-eq-by a b y z h k e = if-eq a b y z (h ∙ k) e

  pub if-ne-by : (a b : ℕ) (y z : A) {m : ℕ} → (a ≡ m → ⊥) → m ≡ b → x ≡ z → x ≡ pick (eqb a b) y z
  if-ne-by a b y z h k e = if-ne a b y z (λ q. h (q ∙ sym k)) e

  pub value-is : {B : Type 0} (n : B) (go : B → A) {m : B} → m ≡ n → x ≡ go m → x ≡ value_then n go
  unfolding value_then
  value-is n go e h = rw (← e) h

  pub kind_0 : (k : ℕ) (a b c d e f g o : A) → k ≡ 0 → x ≡ a → x ≡ kinds k a b c d e f g o
  unfolding kinds pick
  kind_0 k a b c d e f g o h q = rw h q

  pub kind_1 : (k : ℕ) (a b c d e f g o : A) → k ≡ 1 → x ≡ b → x ≡ kinds k a b c d e f g o
  unfolding kinds pick
  kind_1 k a b c d e f g o h q = rw h q

  pub kind_2 : (k : ℕ) (a b c d e f g o : A) → k ≡ 2 → x ≡ c → x ≡ kinds k a b c d e f g o
  unfolding kinds pick
  kind_2 k a b c d e f g o h q = rw h q

  pub kind_3 : (k : ℕ) (a b c d e f g o : A) → k ≡ 3 → x ≡ d → x ≡ kinds k a b c d e f g o
  unfolding kinds pick
  kind_3 k a b c d e f g o h q = rw h q

  pub kind-4 : (k : ℕ) (a b c d e f g o : A) → k ≡ 4 → x ≡ e → x ≡ kinds k a b c d e f g o
  unfolding kinds pick
  kind-4 k a b c d e f g o h q = rw h q

  pub kind-5 : (k : ℕ) (a b c d e f g o : A) → k ≡ 5 → x ≡ f → x ≡ kinds k a b c d e f g o
  unfolding kinds pick
  kind-5 k a b c d e f g o h q = rw h q

  pub kind-6 : (k : ℕ) (a b c d e f g o : A) → k ≡ 6 → x ≡ g → x ≡ kinds k a b c d e f g o
  unfolding kinds pick
  kind-6 k a b c d e f g o h q = rw h q

  pub kind-other : (k : ℕ) (a b c d e f g o : A) →
      (k ≡ 0 → ⊥) → (k ≡ 1 → ⊥) → (k ≡ 2 → ⊥) → (k ≡ 3 → ⊥) → (k ≡ 4 → ⊥) → (k ≡ 5 → ⊥) → (k ≡ 6 → ⊥) →
      x ≡ o → x ≡ kinds k a b c d e f g o
  unfolding kinds pick
  kind-other k a b c d e f g o h0 h1 h2 h3 h4 h5 h6 q =
      rw (ne_eqb _ _ h0, ne_eqb _ _ h1, ne_eqb _ _ h2, ne_eqb _ _ h3, ne_eqb _ _ h4, ne_eqb _ _ h5, ne_eqb _ _ h6) q

-- no level left, and a level down
pub no-level : (depth : ℕ) (s : List ℕ) (v : ℕ) (c : Cursor) → depth ≡ 0 → constraint_at depth s v c ≡ (byte_at s c >>= λ _. Err (refuse 7 c.at))
unfolding constraint_at
no-level depth s v c h = rw h

pub level : (depth : ℕ) (s : List ℕ) (v : ℕ) (c : Cursor) → (depth ≡ 0 → ⊥) → constraint_at depth s v c ≡ (node_at s v c >>= λ (n, next). follow n (constraint_at (depth - 1) s v) next)
unfolding constraint_at
level zero s v c h = absurd (h refl)
level (suc d) s v c h = rw sub-one

-- the arguments that are left, after one was read, where it was not one, and after all
module _ (s : List ℕ) (v : ℕ) (c : Cursor) where
  pub arguments-on : {b : ℕ} {d : Cursor} (k : ℕ) → 0 < k → ◌≡◌ {A = Read ℕ} (Ok (b, d)) (variable_at s v c) → arguments_at (k - 1) s v d ≡ arguments_at k s v c
  unfolding arguments_at go_on
  arguments-on zero h e = absurd (let z : ⊥ = omega arith in z)
  arguments-on (suc k) h e = rw (← e, sub-one)

  pub arguments-stop : {f : Refusal} (k : ℕ) → 0 < k → Err f ≡ variable_at s v c → Err f ≡ arguments_at k s v c
  unfolding arguments_at go_on
  arguments-stop zero h e = absurd (let z : ⊥ = omega arith in z)
  arguments-stop (suc k) h e = rw (← e)

  pub arguments-end : (k : ℕ) → k ≤ 0 → Ok c ≡ arguments_at k s v c
  unfolding arguments_at
  arguments-end k h = let z : k ≡ 0 = omega arith in rw z

-- bytes that were passed over are there, and a relation that was read is one
pub skip-room : (s : List ℕ) (n : ℕ) (c : Cursor) {d : Cursor} → Ok d ≡ skip_at s n c → c.at + n ≤ length s
skip-room s n c e = (skip_read s n c (sym e)).there

pub relation-below : (s : List ℕ) (n : ℕ) (c : Cursor) {b : ℕ} {d : Cursor} → ◌≡◌ {A = Read ℕ} (Ok (b, d)) (relation_at s n c) → b < n
relation-below s n c e = (relation-read s n c (sym e)).below

-- by way of what a loop's invariant says is due from here
pub via : {A : Type 0} {x y z : A} → y ≡ z → x ≡ y → x ≡ z
via h e = e ∙ h

pub ruleset ways = (
  goes-on,
  stops,
  if-lt,
  if-ge,
  if-le,
  if-gt,
  fits_in,
  fits-past,
  fits-over,
  if-eq,
  if-ne,
  kind_0,
  kind_1,
  kind_2,
  kind_3,
  kind-4,
  kind-5,
  kind-6,
  kind-other,
  if-eq-by,
  if-ne-by,
  value-is,
)
