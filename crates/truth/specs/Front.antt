-- What stands in the front of a list stands in the whole of it, and is the same: a constraint, and an atom's arguments.
use Prim.Native.Nat.{ℕ, zero, suc, ◌+◌, ◌*◌, ◌≤◌}
use Rattle.std.proofs.Common.{arith, length-take, length-drop, take-suc, get_or-drop, lt-ltb, le-leb}
use Rattle.std.specs.Prelude.{◌≡◌, List, length, take, drop, Ok, Err}
use Rattle.std.proofs.Math.Path.{refl}
use Rattle.std.proofs.Math.Dec.{eqb}
use Rattle.std.proofs.Math.Bool.{false}
use Rattle.whole.specs.Bytes.{front-byte, u16_at, u32_at, i16_at, i32_at}
use Rattle.meaning.specs.Constraint.{Constraint}
use Rattle.cursor.specs.declared.Cursor.{Cursor}
use Rattle.cursor.specs.declared.Comparison.TheVariants.{AtMost, Equal}
use Rattle.cursor.specs.declared.Node.{Node}
use Rattle.cursor.specs.declared.Node.TheVariants as nodes
use Rattle.cursor.specs.Steps.{pick, kinds, byte_at, skip_at, number_at, kind_at, sum_at, remains_at, node_at}
use Rattle.cursor.specs.Tree.{coefficients_at, sum_of, grow, tree_at}
use Rattle.cursor.specs.Meaning.{tree_of, tree_in}
use Rattle.cursor.specs.Inverse.{IsNode, IsData, pick-else, kinds-by, byte-read, skip_read, number_read, node-read}
use Rattle.cursor.specs.Sound.{Arguments, IsTree}
use Rattle.reply.specs.Answer.{refuse}
use Rattle.reply.specs.Then.{go_on, went, no_err, same-read}

module _ (s : List ℕ) (j : ℕ) where
  abbrev f : List ℕ
  f = take j s

  inside : (n : ℕ) → n ≤ length f → n ≤ length s
  inside n h = let z = length-take j s in omega arith

  -- ---- arguments

  pub front-part : (p n : ℕ) → p + n ≤ length f → take n (drop p f) ≡ take n (drop p s)
  front-part p zero h = refl
  front-part p (suc n) h =
      let z = length-take j s in
      rw (
        take-suc (drop p f) n 0 (omega (arith, length-drop p f)),
        take-suc (drop p s) n 0 (omega (arith, length-drop p s)),
        front-part p n (omega arith),
        get_or-drop p f n 0,
        get_or-drop p s n 0,
        (front-byte s j (p + n) (omega arith)).1,
      )

  pub front-arguments : (v p n : ℕ) → Arguments f v p n → Arguments s v p n
  front-arguments v p n a = record {
    within = inside _ a.within;
    each = λ i k. rw (front-byte s j (p + i) (omega (arith, a.within))).1 at (a.each i k);
  }

  -- ---- numbers

  u16-same : (p : ℕ) → p + 2 ≤ length f → u16_at f p ≡ u16_at s p
  unfolding u16_at
  u16-same p h = rw ((front-byte s j p (omega arith)).1, (front-byte s j (p + 1) (omega arith)).1)

  i16-same : (p : ℕ) → p + 2 ≤ length f → i16_at f p ≡ i16_at s p
  unfolding i16_at
  i16-same p h = rw (u16-same p h)

  i32-same : (p : ℕ) → p + 4 ≤ length f → i32_at f p ≡ i32_at s p
  unfolding i32_at u32_at
  i32-same p h = rw (u16-same p (omega arith), u16-same (p + 2) (omega arith))

  coefficients-same : (v p : ℕ) → p + v * 2 ≤ length f → coefficients_at v f p ≡ coefficients_at v s p
  unfolding coefficients_at
  coefficients-same zero p h = refl
  coefficients-same (suc v) p h = rw (i16-same p (omega arith), coefficients-same v (p + 2) (omega arith))

  sum_same : (v p : ℕ) → p + (v * 2 + 4) ≤ length f → sum_of f v p ≡ sum_of s v p
  unfolding sum_of
  sum_same v p h = rw (coefficients-same v p (omega arith), i32-same (p + v * 2) (omega arith))

  -- ---- reading steps: what was read in the front is read in the whole

  byte-front : (c : Cursor) {b : ℕ} {e : Cursor} → byte_at f c ≡ Ok (b, e) → byte_at s c ≡ Ok (b, e)
  unfolding byte_at pick
  byte-front c q =
      let w = byte-read f c q in
      let (t, g) = front-byte s j c.at w.there in
      rw (lt-ltb c.at (length s) t, w.next, w.is, g)

  skip-front : (n : ℕ) (c : Cursor) {e : Cursor} → skip_at f n c ≡ Ok e → skip_at s n c ≡ Ok e
  unfolding skip_at pick
  skip-front n c q = let w = skip_read f n c q in rw (le-leb (c.at + n) (length s) (inside _ w.there), w.next)

  sum-front : (v : ℕ) (c : Cursor) {e : Cursor} → sum_at f v c ≡ Ok e → sum_at s v c ≡ Ok e
  unfolding sum_at
  sum-front v c q = skip-front (v * 2 + 4) c q

  number-front : (c : Cursor) {x : ℕ} {e : Cursor} → number_at f c ≡ Ok (x, e) → number_at s c ≡ Ok (x, e)
  unfolding number_at go_on
  number-front c {x} {e} q =
      let w = number_read f c q in
      went _ _ _ no_err q λ d p r.
      let same = (same-read r).1 in
      rw (skip-front 2 c p, same, w.is, u16-same c.at w.here.there)

  kind-front : (c : Cursor) {k : ℕ} {e : Cursor} → kind_at f c ≡ Ok (k, e) → kind_at s c ≡ Ok (k, e)
  unfolding kind_at go_on
  kind-front c q = went _ _ _ no_err q λ (a, d) p r. rw (byte-front c p) r

  remains-front : (v : ℕ) (c : Cursor) {n : Node} {e : Cursor} → remains_at f v c ≡ Ok (n, e) → remains_at s v c ≡ Ok (n, e)
  unfolding remains_at go_on pick
  remains-front v c q =
      went _ _ _ no_err q λ c1 p1 q1.
      went _ _ _ no_err q1 λ (d, c2) p2 q2.
      pick-else _ _ _ (no_err _) q2 λ z q3.
      went _ _ _ no_err q3 λ (r, c3) p3 q4.
      let some : eqb d 0 ≡ false = z in
      rw (sum-front v c p1, number-front c1 p2, some, number-front c2 p3) q4

  node-front : (v : ℕ) (c : Cursor) {n : Node} {e : Cursor} → node_at f v c ≡ Ok (n, e) → node_at s v c ≡ Ok (n, e)
  unfolding node_at go_on kinds pick
  node-front v c {n} {e} q =
      went _ _ _ no_err q λ (k, i) p r.
      kinds-by (λ a. a ≡ Ok (n, e) → node_at s v c ≡ Ok (n, e)) k _ _ _ _ _ _ _ _
      (λ h w. rw (kind-front c p, h) w)
      (λ h w. went _ _ _ no_err w λ d x y. rw (kind-front c p, h, sum-front v i x) y)
      (λ h w. went _ _ _ no_err w λ d x y. rw (kind-front c p, h, sum-front v i x) y)
      (λ h w. rw (kind-front c p, h) w)
      (λ h w. rw (kind-front c p, h) w)
      (λ h w. rw (kind-front c p, h) w)
      (λ h w. rw (kind-front c p, h, remains-front v i w))
      (λ w. absurd (no_err _ w))
      r

  -- ---- trees

  module _ (v : ℕ) where
    grow-front : (n : Node) (c : Cursor) {i e : Cursor} {t : Constraint} (d : ℕ)
        → ((c : Cursor) (t : Constraint) (e : Cursor) → tree_at f v d c ≡ Ok (t, e) → tree_at s v d c ≡ Ok (t, e))
        → IsNode f v c n i → grow f v n (tree_at f v d) i ≡ Ok (t, e) → grow s v n (tree_at s v d) i ≡ Ok (t, e)
    unfolding grow IsData go_on
    grow-front nodes.True c d h w q = q
    grow-front (nodes.Compare (AtMost a)) c d h w q = rw (← sum_same v a.at (rw w.holds.0 w.holds.1.there)) q
    grow-front (nodes.Compare (Equal a)) c d h w q = rw (← sum_same v a.at (rw w.holds.0 w.holds.1.there)) q
    grow-front nodes.Not c {i} d h w q = went _ _ _ no_err q λ (t, e) p r. rw (h i t e p) r
    grow-front nodes.And c {i} d h w q = went _ _ _ no_err q λ (t, j) p r. went _ _ _ no_err r λ (u, e) x y. rw (h i t j p, h j u e x) y
    grow-front nodes.Or c {i} d h w q = went _ _ _ no_err q λ (t, j) p r. went _ _ _ no_err r λ (u, e) x y. rw (h i t j p, h j u e x) y
    grow-front (nodes.Remainder m) c d h w q = rw (← sum_same v m.sum.at (rw w.holds.sum (let k = w.holds.there in omega arith))) q

    tree-front : (d : ℕ) (c : Cursor) (t : Constraint) (e : Cursor) → tree_at f v d c ≡ Ok (t, e) → tree_at s v d c ≡ Ok (t, e)
    unfolding tree_at go_on
    tree-front zero c t e q = went (byte_at f c) (λ _. Err (refuse 7 c.at)) Err no_err q λ _ p r. absurd (no_err _ r)
    tree-front (suc d) c t e q =
        went _ _ _ no_err q λ (n, i) p r.
        rw (node-front v c p) (grow-front n c d (tree-front d) (node-read f v c p) r)

    -- a constraint in the front
    pub front-is-tree : (p : ℕ) → IsTree f v p → IsTree s v p
    front-is-tree p w = record { tree = w.tree; end = w.end; reads = tree-front 16 _ _ _ w.reads }

    pub front-tree : (p : ℕ) → IsTree f v p → tree_in f v p ≡ tree_in s v p
    unfolding tree_in tree_of
    front-tree p w = rw (w.reads, tree-front 16 _ _ _ w.reads)
