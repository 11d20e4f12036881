-- What each reading step of a record answers. A step takes the bytes up to the index and a cursor; a byte or number that would pass their end is refusal 8 there.
use Rattle.std.specs.Prelude.{ℕ, ◌+◌, ◌-◌, ◌*◌, List, Bool, true, false, length, get_or, ltb, leb, eqb, Result, Ok, Err}
use Rattle.whole.specs.Bytes.{u16_at}
use Rattle.cursor.specs.declared.Cursor.{Cursor}
use Rattle.reply.specs.declared.Refusal.{Refusal}
use Rattle.reply.specs.Answer.{refuse}
use Rattle.reply.specs.Then.{◌>>=◌}
use Rattle.cursor.specs.declared.Comparison.TheVariants.{AtMost, Equal}
use Rattle.cursor.specs.declared.Node.{Node}
use Rattle.cursor.specs.declared.Node.TheVariants as nodes

-- a cursor that moved on, or the refusal
abbrev pub Step : Type 0
Step = Result Cursor Refusal

-- what was read with the cursor past it, or the refusal
abbrev pub Read : Type 0 → Type 0
Read A = Result (A × Cursor) Refusal

-- the first where the test holds, else the second
unfoldable pub pick : {A : Type 0} → Bool → A → A → A
pick true a b = a
pick false a b = b

-- go on with a value
unfoldable pub value_then : {A B : Type 0} → B → (B → A) → A
value_then n go = go n

abbrev pub moved : ℕ → Cursor → Cursor
moved n c = record { at = c.at + n; left = c.left }

unfoldable pub byte_at : List ℕ → Cursor → Read ℕ
byte_at s c = pick (ltb c.at (length s)) (Ok (get_or s c.at 0, moved 1 c)) (Err (refuse 8 (length s)))

-- a byte below n, else the refusal number at its place
unfoldable pub below_at : ℕ → List ℕ → ℕ → Cursor → Read ℕ
below_at number s n c = do
  (b, next) ← byte_at s c
  pick (ltb b n) (Ok (b, next)) (Err (refuse number c.at))

unfoldable pub relation_at : List ℕ → ℕ → Cursor → Read ℕ
relation_at = below_at 5

unfoldable pub variable_at : List ℕ → ℕ → Cursor → Read ℕ
variable_at = below_at 6

unfoldable pub skip_at : List ℕ → ℕ → Cursor → Step
skip_at s n c = pick (leb (c.at + n) (length s)) (Ok (moved n c)) (Err (refuse 8 (length s)))

unfoldable pub number_at : List ℕ → Cursor → Read ℕ
number_at s c = do
  next ← skip_at s 2 c
  Ok (u16_at s c.at, next)

unfoldable pub kind_at : List ℕ → Cursor → Read ℕ
kind_at s c = do
  (k, next) ← byte_at s c
  pick (ltb 0 next.left) (Ok (k, record { at = next.at; left = next.left - 1 })) (Err (refuse 7 c.at))

unfoldable pub sum_at : List ℕ → ℕ → Cursor → Step
sum_at s v c = skip_at s (v * 2 + 4) c

unfoldable pub remains_at : List ℕ → ℕ → Cursor → Read Node
remains_at s v c = do
  c1 ← sum_at s v c
  (d, c2) ← number_at s c1
  pick (eqb d 0) (Err (refuse 7 c1.at)) do
    (r, c3) ← number_at s c2
    pick (ltb r d) (Ok (nodes.Remainder (record { sum = record { at = c.at }; d = d; r = r }), c3)) (Err (refuse 7 c2.at))

-- one of seven by the kind, else the last
unfoldable pub kinds : {A : Type 0} → ℕ → A → A → A → A → A → A → A → A → A
kinds k a b c d e f g other =
    pick (eqb k 0) a (pick (eqb k 1) b (pick (eqb k 2) c (pick (eqb k 3) d
    (pick (eqb k 4) e (pick (eqb k 5) f (pick (eqb k 6) g other))))))

unfoldable pub node_at : List ℕ → ℕ → Cursor → Read Node
node_at s v c = do
  (k, c1) ← kind_at s c
  kinds k
      (Ok (nodes.True, c1))
      (sum_at s v c1 >>= λ c2. Ok (nodes.Compare (AtMost (record { at = c1.at })), c2))
      (sum_at s v c1 >>= λ c2. Ok (nodes.Compare (Equal (record { at = c1.at })), c2))
      (Ok (nodes.Not, c1))
      (Ok (nodes.And, c1))
      (Ok (nodes.Or, c1))
      (remains_at s v c1)
      (Err (refuse 7 c.at))
