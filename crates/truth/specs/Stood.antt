-- A constraint that stands in the bytes: its place, its tree and where it ends.
use Rattle.std.specs.Prelude.{ℕ, suc, ◌+◌, ◌*◌, ◌<◌, ◌≤◌, ◌≡◌, List, Bool, true, false, ◌||◌, length, get_or, ℤ, eqb, ltb}
use Rattle.meaning.specs.Constraint.{Constraint, holds, truth, at_most, equal, not, and, or, remainder}
use Rattle.whole.specs.Bytes.{u16_at}
use Rattle.cursor.specs.Steps.{pick}
use Rattle.cursor.specs.Tree.{sum_of}
use Rattle.truth.specs.declared.Leaf.{Leaf}

-- ---- kinds

-- two sides
unfoldable pub joins_of : ℕ → Bool
joins_of k = eqb k 4 || eqb k 5

-- the bytes of a kind beside those that stand below it, over v variables
unfoldable pub size_of : ℕ → ℕ → ℕ
size_of k v = pick (eqb k 0) 1 (pick (ltb k 3) (5 + v * 2) (pick (ltb k 6) 1 (9 + v * 2)))

-- how many constraints stand below
unfoldable pub parts_of : ℕ → ℕ
parts_of k = pick (eqb k 3) 1 (pick (joins_of k) 2 0)

-- a constraint of kind k at p with none below it
unfoldable pub leaf_of : List ℕ → ℕ → ℕ → ℕ → Constraint
leaf_of s v p k =
    pick (eqb k 0) truth
    (pick (eqb k 1) (at_most (sum_of s v (p + 1)))
    (pick (eqb k 2) (equal (sum_of s v (p + 1)))
    (remainder (sum_of s v (p + 1)) (u16_at s (p + 5 + v * 2)) (u16_at s (p + 5 + v * 2 + 2)))))

-- both sides or either one, and the kind that says so
unfoldable pub join : Bool → Constraint → Constraint → Constraint
join true = and
join false = or

unfoldable pub joint : Bool → ℕ
joint true = 4
joint false = 5

-- ---- where a constraint stands

-- k is a kind with none below it, and its bytes at p are there
pub record Alone (s : List ℕ) (v p k : ℕ) : Type 0 where
  pub there : p + size_of k v ≤ length s
  pub single : k ≡ 3 → ⊥
  pub plain : joins_of k ≡ false
  pub divisor : 5 < k → 0 < u16_at s (p + 5 + v * 2)

-- what is told of such a constraint: whether it is true of xs, and where it ends
pub record Judged (s : List ℕ) (v p k : ℕ) (xs : List ℤ) (r : Leaf) : Type 0 where
  pub is : r.met ≡ holds xs (leaf_of s v p k)
  pub past : r.past ≡ p + size_of k v

-- the constraint t stands at p and ends at q
pub data Stood (s : List ℕ) (v : ℕ) : ℕ → Constraint → ℕ → Type 0 where
  alone : {p q : ℕ} {t : Constraint} → Alone s v p (get_or s p 0) → t ≡ leaf_of s v p (get_or s p 0) → q ≡ p + size_of (get_or s p 0) v → Stood s v p t q
  turned : {p q : ℕ} {t : Constraint} → get_or s p 0 ≡ 3 → Stood s v (p + 1) t q → Stood s v p (not t) q
  joined : {p m q : ℕ} {t u : Constraint} (op : Bool) → get_or s p 0 ≡ joint op → Stood s v (p + 1) t m → Stood s v m u q → Stood s v p (join op t u) q

-- n constraints stand one after another from p to q
pub data Row (s : List ℕ) (v : ℕ) : ℕ → ℕ → ℕ → Type 0 where
  none : {q : ℕ} → Row s v 0 q q
  more : {n p m q : ℕ} {t : Constraint} → Stood s v p t m → Row s v n m q → Row s v (suc n) p q

-- such a row is there
pub record Rowed (s : List ℕ) (v n p : ℕ) : Type 0 where
  pub past : ℕ
  pub row : Row s v n p past
  pub within : past ≤ length s

-- r is where it ends
pub record Ended (s : List ℕ) (v n p r : ℕ) : Type 0 where
  pub is : {q : ℕ} → Row s v n p q → r ≡ q
