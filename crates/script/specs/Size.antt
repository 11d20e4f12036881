-- A bound on the length of the printed text, far below the largest position.
use Rattle.std.specs.Prelude.{◌≡◌, List, ◌∷◌, ◌++◌, Bool, false, eqb, ℤ, pos, negsuc, nat_abs, length, get_or}
use Rattle.std.proofs.Math.Option.{Option, none, some}
use Rattle.std.proofs.Math.Bool.{true}
use Prim.Native.Nat.{ℕ, suc, ◌+◌, ◌*◌, ◌^◌, ◌≤◌, ◌<◌}
use Rattle.std.proofs.Common.{le_trans, mul-le-mul, le_refl, length-append}
use Rattle.std.proofs.Math.Nat.{pow-suc}
use native.Mathlib.Omega.{arith}
use Rattle.meaning.specs.Constraint.{Sum, Constraint, truth, at_most, equal, not, and, or, remainder}
use Rattle.meaning.specs.Book.{Atom, Clause, Book, Window, none_such, place_window, variable_window}
use Rattle.sexp.specs.Bytes.{bytes}
use Rattle.sexp.specs.Sexp.{Sexps, end, ◌&◌, ◌⧺◌, each, over}
use Rattle.sexp.specs.Size.{cost, costs, lines-size, costs-and, costs-each}
use Rattle.put.specs.Digits.{digits, digits-size}
use Rattle.put.specs.Number.{num}
use Rattle.script.specs.Names.{flag_name, place_name, input_name, next, in_state, pair_name}
use Rattle.script.specs.Terms.{limits, same, product, sum, compared, remains, constraint}
use Rattle.script.specs.Lines.{state_lines, place_lines, relation_lines, input_line, input_lines, denied, place_limits, init_line, argument, atom_items, body_items, kept_place, frame, pick_items, frame_but, input_limits, clause_part, clause_part_of, trans_line, prop_line}
use Rattle.script.specs.Text.{script, text}

-- ten digits
abbrev pub Short : ℕ → Type 0
Short n = n < 10000000000

digits-short : (n : ℕ) → Short n → length (digits n) ≤ 10
digits-short n h = digits-size 9 n h

-- what n lists of at most b cost, where there are at most m
each_within : (n m b : ℕ) (f : ℕ → Sexps) → n ≤ m → ((i : ℕ) → i < n → costs (f i) ≤ b) → costs (each n f) ≤ m * b
each_within n m b f h k = le_trans (costs-each n b f k) (mul-le-mul h (le_refl b))

-- ---- names and numbers

flag-size : (r : ℕ) → Short r → length (flag_name r) ≤ 22
unfolding flag_name
flag-size r h = omega (arith, digits-short r h)

two_size : (b m n : ℕ) → Short m → Short n → length (b ∷ digits m ++ bytes "_" ++ digits n) ≤ 22
two_size b m n h k =
    omega (arith, length-append (digits m ++ bytes "_") (digits n), length-append (digits m) (bytes "_"), digits-short m h, digits-short n k)

place-size : (r i : ℕ) → Short r → Short i → length (place_name r i) ≤ 22
unfolding place_name
place-size r i h k = two_size 112 r i h k

input-size : (k i : ℕ) → Short k → Short i → length (input_name k i) ≤ 22
unfolding input_name
input-size k i h l = two_size 121 k i h l

next-size : (n : List ℕ) → length n ≤ 22 → length (next n) ≤ 23
unfolding next
next-size n h = omega (arith, length-append n (bytes "n"))

state-size : (after : Bool) (n : List ℕ) → length n ≤ 22 → length (in_state after n) ≤ 23
unfolding in_state
state-size false n h = omega arith
state-size true n h = next-size n h

num-size : (z : ℤ) → Short (nat_abs z) → cost (num z) ≤ 16
unfolding num cost
num-size (pos n) h = omega (arith, digits-short n h)
num-size (negsuc n) h = omega (arith, digits-short (suc n) h)

-- ---- terms

pub record SmallWindow (o : Window) : Type 0 where
  pub lo : Short (nat_abs o.lo)
  pub hi : Short (nat_abs o.hi)

module _ (n : List ℕ) (h : length n ≤ 22) where
  limits-size : (o : Window) → SmallWindow o → costs (limits o n) ≤ 128
  unfolding limits cost
  limits-size o k = omega (arith, num-size o.lo k.lo, num-size o.hi k.hi)

  same_size : (m : List ℕ) → length m ≤ 23 → cost (same m n) ≤ 64
  unfolding same cost
  same_size m k = omega arith

  kept-size : cost (same (next n) n) ≤ 64
  kept-size = same_size (next n) (next-size n h)

-- coefficients and constant
pub record SmallSum (s : Sum) : Type 0 where
  pub count : length s.coefficients ≤ 16
  pub coefficients : (i : ℕ) → i < length s.coefficients → Short (nat_abs (get_or s.coefficients i (pos 0)))
  pub constant : Short (nat_abs s.constant)

module _ (k : ℕ) (short : Short k) where
  product-size : (i : ℕ) (c : ℤ) → Short i → Short (nat_abs c) → costs (product k i c) ≤ 64
  unfolding product cost
  product-size i c h l = omega (arith, num-size c l, input-size k i short h)

  pub sum-size : (s : Sum) → SmallSum s → cost (sum k s) ≤ 2048
  unfolding sum cost
  sum-size s h =
      omega (
        arith,
        num-size s.constant h.constant,
        each_within (length s.coefficients) 16 64 (λ i. product k i (get_or s.coefficients i (pos 0))) h.count
            (λ i l. product-size i _ (omega (arith, h.count)) (h.coefficients i l)),
      )

  -- a constraint of depth d
  abbrev pub Bound : ℕ → Constraint → Type 0
  Bound d t = cost (constraint k t) + 16 ≤ 8192 * 2 ^ d

  pub truth-size : (d : ℕ) → 1 ≤ 2 ^ d → Bound d truth
  unfolding constraint cost
  truth-size d h = omega arith

  pub at_most_size : (d : ℕ) (s : Sum) → 1 ≤ 2 ^ d → SmallSum s → Bound d (at_most s)
  unfolding constraint compared cost
  at_most_size d s h l = omega (arith, sum-size s l)

  pub equal-size : (d : ℕ) (s : Sum) → 1 ≤ 2 ^ d → SmallSum s → Bound d (equal s)
  unfolding constraint compared cost
  equal-size d s h l = omega (arith, sum-size s l)

  pub remainder-size : (d : ℕ) (s : Sum) (m r : ℕ) → 1 ≤ 2 ^ d → SmallSum s → Short m → Short r → Bound d (remainder s m r)
  unfolding constraint remains cost
  remainder-size d s m r h l a b = omega (arith, sum-size s l, digits-short m a, digits-short r b)

  module _ (d : ℕ) (h : 1 ≤ 2 ^ d) (t u : Constraint) where
    pub not-size : Bound d t → Bound (suc d) (not t)
    unfolding constraint cost
    not-size p = let e : 2 ^ suc d ≡ 2 ^ d * 2 = pow-suc 2 d in omega arith

    pub and-size : Bound d t → Bound d u → Bound (suc d) (and t u)
    unfolding constraint cost
    and-size p q = let e : 2 ^ suc d ≡ 2 ^ d * 2 = pow-suc 2 d in omega arith

    pub or-size : Bound d t → Bound d u → Bound (suc d) (or t u)
    unfolding constraint cost
    or-size p q = let e : 2 ^ suc d ≡ 2 ^ d * 2 = pow-suc 2 d in omega arith

-- ---- lines

state_lines-size : (n : List ℕ) → length n ≤ 22 → (costs (state_lines "Bool" n) ≤ 256) × (costs (state_lines "Int" n) ≤ 256)
unfolding state_lines pair_name cost
state_lines-size n h = let k = next-size n h in (omega arith, omega arith)

relation-size : (r a : ℕ) → Short r → a ≤ 255 → costs (relation_lines r a) ≤ 65536
unfolding relation_lines place_lines
relation-size r a h k =
    omega (
      arith,
      costs-and (state_lines "Bool" (flag_name r)) (each a (place_lines r)),
      (state_lines-size (flag_name r) (flag-size r h)).0,
      each_within a 255 256 (place_lines r) k (λ i l. (state_lines-size (place_name r i) (place-size r i h (omega arith))).1),
    )

inputs-size : (k : ℕ) (c : Clause) → Short k → c.vars ≤ 16 → costs (input_lines k c) ≤ 1024
unfolding input_lines input_line cost
inputs-size k c h l = each_within c.vars 16 64 (input_line k) l (λ i m. omega (arith, input-size k i h (omega arith)))

-- ---- a clause

pub record SmallAtom (a : Atom) : Type 0 where
  pub rel : Short a.rel
  pub count : length a.args ≤ 255
  pub args : (i : ℕ) → i < length a.args → Short (get_or a.args i 0)

unfoldable pub SmallBody : Option Atom → Type 0
SmallBody none = Unit {0}
SmallBody (some a) = SmallAtom a

pub record SmallClause (c : Clause) : Type 0 where
  pub vars : c.vars ≤ 16
  pub body : SmallBody c.body
  pub head : SmallAtom c.head
  pub rule : (k : ℕ) (short : Short k) → Bound k short 16 c.rule

pub record SmallBook (b : Book) : Type 0 where
  pub relations : length b.arities ≤ 16
  pub arities : (r : ℕ) → get_or b.arities r 0 ≤ 255
  pub clauses : length b.clauses ≤ 64
  pub each : (k : ℕ) → k < length b.clauses → SmallClause (get_or b.clauses k none_such)
  pub places : (r i : ℕ) → SmallWindow (place_window b r i)
  pub variables : (c : Clause) (i : ℕ) → SmallWindow (variable_window b c i)
  pub query : Short b.query

module _ (after : Bool) (k : ℕ) (short : Short k) where
  atom-size : (a : Atom) → SmallAtom a → costs (atom_items after k a) ≤ 32768
  unfolding atom_items argument cost
  atom-size a h =
      omega (
        arith,
        state-size after (flag_name a.rel) (flag-size a.rel h.rel),
        each_within (length a.args) 255 65 (λ i. argument after k a.rel i (get_or a.args i 0)) h.count
            (λ i l. omega (
              arith,
              same_size (input_name k (get_or a.args i 0)) (input-size k _ short (h.args i l)) (in_state after (place_name a.rel i))
                  (state-size after (place_name a.rel i) (place-size a.rel i h.rel (omega (arith, h.count)))),
            )),
      )

body-size : (k : ℕ) → Short k → (a : Option Atom) → SmallBody a → costs (body_items k a) ≤ 32768
unfolding body_items SmallBody cost
body-size k short none h = omega arith
body-size k short (some a) h = atom-size false k short a h

but-size : (h r a : ℕ) → Short r → a ≤ 255 → costs (frame_but h r a) ≤ 32768
unfolding frame_but frame kept_place cost
but-size h r a s k = by (eqb r h)
  where
    by : (t : Bool) → costs (pick_items t end (frame r a)) ≤ 32768
    by true = omega arith
    by false = omega (
      arith,
      kept-size (flag_name r) (flag-size r s),
      each_within a 255 65 (kept_place r) k (λ i l. omega (arith, kept-size (place_name r i) (place-size r i s (omega arith)))),
    )

module _ (b : Book) (small : SmallBook b) where
  part-size : (k : ℕ) (c : Clause) → Short k → SmallClause c → costs (clause_part_of b k c) ≤ 1073741824
  unfolding clause_part_of clause_part input_limits cost
  part-size k c short h =
      let limits = each_within c.vars 16 128 (input_limits (variable_window b c) k) h.vars
      (λ i l. limits-size (input_name k i) (input-size k i short (omega (arith, h.vars))) (variable_window b c i) (small.variables c i)) in
      let frames = each_within (length b.arities) 16 32768 (λ r. frame_but c.head.rel r (get_or b.arities r 0)) small.relations
      (λ r l. but-size c.head.rel r (get_or b.arities r 0) (omega (arith, small.relations)) (small.arities r)) in
      omega (
        arith,
        limits,
        frames,
        h.rule k short,
        body-size k short c.body h.body,
        atom-size true k short c.head h.head,
        costs-and (each c.vars (input_limits (variable_window b c) k)) (constraint k c.rule & (body_items k c.body ⧺ (atom_items true k c.head ⧺ over 0 b.arities (frame_but c.head.rel)))),
        costs-and (body_items k c.body) (atom_items true k c.head ⧺ over 0 b.arities (frame_but c.head.rel)),
        costs-and (atom_items true k c.head) (over 0 b.arities (frame_but c.head.rel)),
      )

  init-size : cost (init_line (place_window b) b.arities) ≤ 1048576
  unfolding init_line denied place_limits cost
  init-size =
      let flags = each_within (length b.arities) 16 64 denied small.relations (λ r l. omega (arith, flag-size r (omega (arith, small.relations)))) in
      let places = each_within (length b.arities) 16 32640 (λ r. place_limits (place_window b) r (get_or b.arities r 0)) small.relations
      (λ r l. each_within (get_or b.arities r 0) 255 128 (λ i. limits (place_window b r i) (place_name r i)) (small.arities r)
      (λ i m. limits-size (place_name r i) (place-size r i (omega (arith, small.relations)) (omega (arith, small.arities r))) (place_window b r i) (small.places r i))) in
      omega (arith, flags, places, costs-and (each (length b.arities) denied) (over 0 b.arities (place_limits (place_window b))))

  trans-size : cost (trans_line b) ≤ 137438953472
  unfolding trans_line cost
  trans-size =
      omega (
        arith,
        each_within (length b.clauses) 64 1073741824 (λ k. clause_part_of b k (get_or b.clauses k none_such)) small.clauses
            (λ k l. part-size k (get_or b.clauses k none_such) (omega (arith, small.clauses)) (small.each k l)),
      )

  prop-size : cost (prop_line b.query) ≤ 256
  unfolding prop_line cost
  prop-size = omega (arith, flag-size b.query small.query)

  -- far less than the largest position
  pub text-size : length (text b) ≤ 274877906944
  unfolding text script cost
  text-size =
      let relations = each_within (length b.arities) 16 65536 (λ r. relation_lines r (get_or b.arities r 0)) small.relations
      (λ r l. relation-size r (get_or b.arities r 0) (omega (arith, small.relations)) (small.arities r)) in
      let inputs = each_within (length b.clauses) 64 1024 (λ k. input_lines k (get_or b.clauses k none_such)) small.clauses
      (λ k l. inputs-size k (get_or b.clauses k none_such) (omega (arith, small.clauses)) (small.each k l).vars) in
      let rest = init_line (place_window b) b.arities & trans_line b & prop_line b.query & end in
      omega (
        arith,
        lines-size (script b),
        relations,
        inputs,
        init-size,
        trans-size,
        prop-size,
        costs-and (over 0 b.arities relation_lines) (over none_such b.clauses input_lines ⧺ rest),
        costs-and (over none_such b.clauses input_lines) rest,
      )
