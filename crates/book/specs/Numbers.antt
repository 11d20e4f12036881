-- The number of every refusal of a book is one of 1 to 8.
use Prim.Native.Nat.{ℕ, zero, suc, ◌≤◌}
use native.Mathlib.Omega.{arith}
use Rattle.std.specs.Prelude.{◌≡◌, List, take, Result, Ok, Err}
use Rattle.cursor.specs.declared.Cursor.{Cursor}
use Rattle.reply.specs.declared.Refusal.{Refusal}
use Rattle.cursor.specs.declared.Node.{Node}
use Rattle.cursor.specs.declared.Node.TheVariants as nodes
use Rattle.cursor.specs.Steps.{value_then, byte_at, below_at, relation_at, variable_at, skip_at, number_at, kind_at, sum_at, remains_at, node_at, Step}
use Rattle.cursor.specs.Walk.{follow, constraint_at}
use Rattle.cursor.specs.Clause.{arguments_at, fact_at, body_at, parts_at, clause_at}
use Rattle.cursor.specs.Inverse.{pick-by, kinds-by}
use Rattle.book.specs.declared.Header.{Header}
use Rattle.book.specs.Read.{sized, headed, trailer, arity_at, arities_at, record_at, clauses_at, read, Reading}
use Rattle.book.specs.Answer.{refused, told, answer}
use Rattle.reply.specs.Then.{go_on, ◌>>=◌}

abbrev pub Numbered : ℕ → Type 0
Numbered n = (1 ≤ n) × (n ≤ 8)

-- where an answer is a refusal, its number is one of them
abbrev Of : {A : Type 0} → Result A Refusal → Type 0
Of (Ok a) = Unit {0}
Of (Err r) = Numbered r.number

-- a refusal is handed on, or reading goes on
then-of : {A B : Type 0} (y : Result A Refusal) (go : A → Result B Refusal) → Of y → ((a : A) → Of (go a)) → Of (y >>= go)
unfolding go_on
then-of (Ok a) go h k = k a
then-of (Err r) go h k = h

-- ---- a record

module _ (s : List ℕ) where
  byte-numbered : (c : Cursor) → Of (byte_at s c)
  unfolding byte_at
  byte-numbered c = pick-by Of _ _ _ (λ t. tt) (λ t. (omega arith, omega arith))

  below-numbered : (number n : ℕ) (c : Cursor) → Numbered number → Of (below_at number s n c)
  unfolding below_at
  below-numbered number n c h =
      then-of (byte_at s c) _ (byte-numbered c) λ (b, e). pick-by Of _ _ _ (λ t. tt) (λ t. h)

  variable-numbered : (v : ℕ) (c : Cursor) → Of (variable_at s v c)
  unfolding variable_at
  variable-numbered v c = below-numbered 6 v c (omega arith, omega arith)

  relation-numbered : (n : ℕ) (c : Cursor) → Of (relation_at s n c)
  unfolding relation_at
  relation-numbered n c = below-numbered 5 n c (omega arith, omega arith)

  skip-numbered : (n : ℕ) (c : Cursor) → Of (skip_at s n c)
  unfolding skip_at
  skip-numbered n c = pick-by Of _ _ _ (λ t. tt) (λ t. (omega arith, omega arith))

  number-numbered : (c : Cursor) → Of (number_at s c)
  unfolding number_at
  number-numbered c = then-of (skip_at s 2 c) _ (skip-numbered 2 c) λ e. tt

  kind-numbered : (c : Cursor) → Of (kind_at s c)
  unfolding kind_at
  kind-numbered c =
      then-of (byte_at s c) _ (byte-numbered c) λ (b, e).
      pick-by Of _ _ _ (λ t. tt) (λ t. (omega arith, omega arith))

  sum-numbered : (v : ℕ) (c : Cursor) → Of (sum_at s v c)
  unfolding sum_at
  sum-numbered v c = skip-numbered _ c

  remains-numbered : (v : ℕ) (c : Cursor) → Of (remains_at s v c)
  unfolding remains_at
  remains-numbered v c =
      then-of (sum_at s v c) _ (sum-numbered v c) λ c1.
      then-of (number_at s c1) _ (number-numbered c1) λ (d, c2).
      pick-by Of _ _ _ (λ t. (omega arith, omega arith)) λ t.
      then-of (number_at s c2) _ (number-numbered c2) λ (r, c3).
      pick-by Of _ _ _ (λ u. tt) (λ u. (omega arith, omega arith))

  node-numbered : (v : ℕ) (c : Cursor) → Of (node_at s v c)
  unfolding node_at
  node-numbered v c =
      then-of (kind_at s c) _ (kind-numbered c) λ (k, i).
      kinds-by Of k _ _ _ _ _ _ _ _
      (λ h. tt)
      (λ h. then-of (sum_at s v i) _ (sum-numbered v i) λ e. tt)
      (λ h. then-of (sum_at s v i) _ (sum-numbered v i) λ e. tt)
      (λ h. tt)
      (λ h. tt)
      (λ h. tt)
      (λ h. remains-numbered v i)
      (omega arith, omega arith)

  follow-numbered : (n : Node) (again : Cursor → Step) (c : Cursor) → ((e : Cursor) → Of (again e)) → Of (follow n again c)
  unfolding follow
  follow-numbered nodes.True again c h = tt
  follow-numbered (nodes.Compare a) again c h = tt
  follow-numbered nodes.Not again c h = h c
  follow-numbered nodes.And again c h = then-of (again c) again (h c) h
  follow-numbered nodes.Or again c h = then-of (again c) again (h c) h
  follow-numbered (nodes.Remainder m) again c h = tt

  constraint-numbered : (depth v : ℕ) (c : Cursor) → Of (constraint_at depth s v c)
  unfolding constraint_at
  constraint-numbered zero v c = then-of (byte_at s c) _ (byte-numbered c) λ (b, e). (omega arith, omega arith)
  constraint-numbered (suc depth) v c =
      then-of (node_at s v c) _ (node-numbered v c) λ (n, e).
      follow-numbered n (constraint_at depth s v) e (constraint-numbered depth v)

  arguments-numbered : (k v : ℕ) (c : Cursor) → Of (arguments_at k s v c)
  unfolding arguments_at
  arguments-numbered zero v c = tt
  arguments-numbered (suc k) v c = then-of (variable_at s v c) _ (variable-numbered v c) λ (b, e). arguments-numbered k v e

  fact-numbered : (n v : ℕ) (c : Cursor) → Of (fact_at s n v c)
  unfolding fact_at
  fact-numbered n v c =
      then-of (relation_at s n c) _ (relation-numbered n c) λ (b, e).
      then-of (arguments_at _ s v e) _ (arguments-numbered _ v e) λ f. tt

  body-numbered : (n v : ℕ) (c : Cursor) → Of (body_at s n v c)
  unfolding body_at
  body-numbered n v c =
      then-of (byte_at s c) _ (byte-numbered c) λ (b, e). pick-by Of _ _ _ (λ t. tt) (λ t. fact-numbered n v c)

  parts-numbered : (n : ℕ) (c : Cursor) → Of (parts_at s n c)
  unfolding parts_at
  parts-numbered n c =
      then-of (variable_at s 17 c) _ (variable-numbered 17 c) λ (v, c1).
      then-of (body_at s n v c1) _ (body-numbered n v c1) λ (b, c2).
      then-of (fact_at s n v c2) _ (fact-numbered n v c2) λ (h, c3). tt

  clause-numbered : (n : ℕ) (c : Cursor) → Of (clause_at s n c)
  unfolding clause_at
  clause-numbered n c =
      then-of (parts_at s n c) _ (parts-numbered n c) λ (l, e).
      then-of (constraint_at 16 s _ _) _ (constraint-numbered 16 _ _) λ past. tt

-- ---- the whole book

module _ (s : List ℕ) where
  arity-numbered : (q : ℕ) (c : Cursor) → Of (arity_at s q c)
  unfolding arity_at value_then
  arity-numbered q c =
      then-of (byte_at s c) _ (byte-numbered s c) λ (a, e). pick-by Of _ _ _ (λ t. tt) (λ t. (omega arith, omega arith))

  arities-numbered : (k q : ℕ) (c : Cursor) → Of (arities_at k s q c)
  unfolding arities_at
  arities-numbered zero q c = tt
  arities-numbered (suc k) q c = then-of (arity_at s q c) _ (arity-numbered q c) (arities-numbered k q)

  record-numbered : (start n p : ℕ) (c : Cursor) → Of (record_at s start n p c)
  unfolding record_at
  record-numbered start n p c =
      pick-by Of _ _ _
      (λ t. then-of (clause_at (take start s) n _) _ (clause-numbered (take start s) n _) λ (l, e). tt)
      (λ t. (omega arith, omega arith))

  clauses-numbered : (k start n p : ℕ) (c : Cursor) → Of (clauses_at k s start n p c)
  unfolding clauses_at
  clauses-numbered zero start n p c = pick-by Of _ _ _ (λ t. tt) (λ t. (omega arith, omega arith))
  clauses-numbered (suc k) start n p c =
      then-of (record_at s start n p c) _ (record-numbered start n p c) (clauses-numbered k start n _)

sized-numbered : (h : Header) (len one nil : ℕ) → Of (sized h len one nil)
unfolding sized
sized-numbered h len one nil =
    let bad : Numbered 2 = (omega arith, omega arith) in
    pick-by Of _ _ _ (λ t. bad) λ t. pick-by Of _ _ _ (λ t. bad) λ t. pick-by Of _ _ _ (λ t. bad) λ t.
    pick-by Of _ _ _ (λ t. bad) λ t. pick-by Of _ _ _
    (λ t. pick-by Of _ _ _ (λ t. pick-by Of _ _ _ (λ t. pick-by Of _ _ _ (λ t. tt) (λ t. bad)) (λ t. bad)) (λ t. bad))
    (λ t. bad)

trailer-numbered : (s : List ℕ) → Of (trailer s)
unfolding trailer headed value_then
trailer-numbered s =
    pick-by Of _ _ _ (λ t. (omega arith, omega arith)) λ t.
    pick-by Of _ _ _ (λ t. (omega arith, omega arith)) λ t.
    pick-by Of _ _ _ (λ t. (omega arith, omega arith)) λ t. sized-numbered _ _ _ _

read-numbered : (s : List ℕ) → Of (read s)
unfolding read
read-numbered s =
    then-of (trailer s) _ (trailer-numbered s) λ h.
    then-of (arities_at _ (take h.start s) _ _) _ (arities-numbered (take h.start s) _ _ _) λ c.
    then-of (clauses_at _ s _ _ _ c) _ (clauses-numbered s _ _ _ _ c) λ e. tt

-- so a refusal's number is never 0, and never that of another refusal of a call
pub refused-number : (s : List ℕ) (n p : ℕ) → answer s ≡ refused n p → Numbered n
unfolding answer told
refused-number s n p e = by (read s) (read-numbered s) e
  where
    by : (r : Reading) → Of r → told s r ≡ refused n p → Numbered n
    by (Ok h) k q = absurd (let z : ◌≡◌ {A = ℕ} 0 1 = cc in let x : ⊥ = omega arith in x)
    by (Err r) k q = let z : r.number ≡ n = cc in rw z at k
