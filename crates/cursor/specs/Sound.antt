-- What a clause record that was read is like: its relations are there, its arguments are variables, its constraint is a tree.
use Rattle.std.specs.Prelude.{ℕ, ◌+◌, ◌*◌, ◌<◌, ◌≤◌, ◌≡◌, ◌⊎◌, List, length, get_or, Ok}
use Rattle.std.proofs.Common.{arith, sym, ◌∙◌, inl, inr}
use Rattle.meaning.specs.Constraint.{Constraint}
use Rattle.cursor.specs.declared.Cursor.{Cursor}
use Rattle.cursor.specs.declared.Comparison.{Comparison}
use Rattle.cursor.specs.declared.Comparison.TheVariants.{AtMost, Equal}
use Rattle.cursor.specs.declared.Remains.{Remains}
use Rattle.cursor.specs.declared.Node.{Node}
use Rattle.cursor.specs.declared.Node.TheVariants as nodes
use Rattle.cursor.specs.declared.Clause.{Clause}
use Rattle.cursor.specs.Steps.{node_at, Read}
use Rattle.cursor.specs.Clause.{parts_at, clause_at}
use Rattle.cursor.specs.Tree.{tree_at}
use Rattle.cursor.specs.Inverse.{at_of, IsData, IsBody, Keeps, node-read, clause-read, tree-by}
pub use Rattle.cursor.specs.Inverse.{Arguments}

module _ (s : List ℕ) where
  -- over v variables a constraint stands at p
  pub record IsTree (v p : ℕ) : Type 0 where
    pub tree : Constraint
    pub end : Cursor
    pub reads : tree_at s v 16 (record { at = p; left = 64 }) ≡ Ok (tree, end)

  pub record Sound (n : ℕ) (l : Clause) : Type 0 where
    pub few : l.variables < 17
    pub body : (l.body ≡ 255) ⊎ ((l.body < n) × Arguments s l.variables (l.body_at + 1) (get_or s l.body 0))
    pub head : l.head < n
    pub place : l.head_at < length s
    pub arguments : Arguments s l.variables (l.head_at + 1) (get_or s l.head 0)
    pub tree : IsTree l.variables l.rule

  body-sound : (n v p : ℕ) (c : Cursor) (b : ℕ) (e : Cursor) → p ≡ c.at → IsBody s n v c b e → (b ≡ 255) ⊎ ((b < n) × Arguments s v (p + 1) (get_or s b 0))
  body-sound n v p c b e q (inl (z, w)) = inl z
  body-sound n v p c b e q (inr (z, w)) = inr (w.below, rw q w.arguments)

  module _ (n : ℕ) (c : Cursor) (l : Clause) (e : Cursor) where
    pub sound : clause_at s n c ≡ Ok (l, e) → Sound n l
    sound q =
        let w = clause-read s n c q in
        let p = w.parts in
        record {
          few = p.variables.below;
          body = body-sound n l.variables l.body_at p.first l.body p.second p.body_at p.body;
          head = p.head.below;
          place = rw p.head_at p.head.there;
          arguments = rw p.head_at p.head.arguments;
          tree = record { tree = w.tree; end = e; reads = w.reads };
        }

    -- the parts alone read the same record
    pub parts-of : clause_at s n c ≡ Ok (l, e) → (d : Cursor) × (parts_at s n c ≡ Ok (l, d))
    parts-of q = let w = clause-read s n c q in (w.middle, w.same)

  -- a tree lies within the bytes
  abbrev Within : ℕ → Cursor → Constraint → Cursor → Type 0
  Within d c t e = (c.at ≤ e.at) × (e.at ≤ length s)

  within : (v : ℕ) → Keeps s v Within
  within v = record {
    truths = λ k. omega (arith, k, at_of k.next);
    at-mosts = λ k w. omega (arith, k, w, at_of k.next, at_of w.next);
    equals = λ k w. omega (arith, k, w, at_of k.next, at_of w.next);
    nots = λ k w. omega (arith, k, w, at_of k.next);
    ands = λ k w x. omega (arith, k, w, x, at_of k.next);
    ors = λ k w x. omega (arith, k, w, x, at_of k.next);
    remainders = λ k w. omega (arith, k, w, at_of k.next, at_of w.next);
  }

  -- a constraint lies within the bytes
  pub tree-part : (v p : ℕ) (w : IsTree v p) → (p ≤ w.end.at) × (w.end.at ≤ length s)
  tree-part v p w = tree-by s v Within (within v) 16 _ w.reads

  -- so does a clause's
  pub clause-part : (n : ℕ) (c : Cursor) (l : Clause) (e : Cursor) {r : Read Clause} → r ≡ clause_at s n c → r ≡ Ok (l, e) →
      (l.rule ≤ e.at) × (e.at ≤ length s)
  clause-part n c l e p q = let w = clause-read s n c (sym p ∙ q) in tree-by s l.variables Within (within l.variables) 16 _ w.reads

  -- the bytes of a node's sum are there, and its divisor is one
  pub record SumThere (v p : ℕ) : Type 0 where
    pub there : p + (v * 2 + 4) ≤ length s

  abbrev pub CompareThere : ℕ → Comparison → Type 0
  CompareThere v (AtMost a) = SumThere v a.at
  CompareThere v (Equal a) = SumThere v a.at

  pub record RemainsThere (v : ℕ) (m : Remains) : Type 0 where
    pub sum : SumThere v m.sum.at
    pub divisor : 0 < m.d

  unfoldable pub NodeThere : ℕ → Node → Type 0
  NodeThere v nodes.True = Unit {0}
  NodeThere v (nodes.Compare a) = CompareThere v a
  NodeThere v nodes.Not = Unit {0}
  NodeThere v nodes.And = Unit {0}
  NodeThere v nodes.Or = Unit {0}
  NodeThere v (nodes.Remainder m) = RemainsThere v m

  data-there : (v : ℕ) (c : Cursor) (n : Node) (e : Cursor) → IsData s v c n e → NodeThere v n
  unfolding NodeThere IsData
  data-there v c nodes.True e w = tt
  data-there v c (nodes.Compare (AtMost a)) e w = record { there = omega (arith, w) }
  data-there v c (nodes.Compare (Equal a)) e w = record { there = omega (arith, w) }
  data-there v c nodes.Not e w = tt
  data-there v c nodes.And e w = tt
  data-there v c nodes.Or e w = tt
  data-there v c (nodes.Remainder m) e w = record { sum = record { there = omega (arith, w) }; divisor = w.some }

-- what a node that was read tells of its data
module _ (s : List ℕ) (v : ℕ) where
  pub node-known : (c : Cursor) (n : Node) {e : Cursor} {r : Read Node} → r ≡ node_at s v c → r ≡ Ok (n, e) → NodeThere s v n
  node-known c n {e} p q = let w = node-read s v c (sym p ∙ q) in data-there s v w.inner n e w.holds

  pub compare-known : (n : Node) (a : Comparison) → NodeThere s v n → n ≡ nodes.Compare a → CompareThere s v a
  unfolding NodeThere
  compare-known n a w e = rw e at w

  pub remains-known : (n : Node) (m : Remains) → NodeThere s v n → n ≡ nodes.Remainder m → RemainsThere s v m
  unfolding NodeThere
  remains-known n m w e = rw e at w
