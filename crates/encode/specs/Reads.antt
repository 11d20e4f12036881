-- Each reading step on what stands at its cursor: it gets what was written, and moves past it.
use Prim.Native.Nat.{ℕ, suc, ◌+◌, ◌-◌, ◌*◌, ◌≤◌, ◌<◌}
use native.Mathlib.Omega.{arith}
use Rattle.std.specs.Prelude.{◌≡◌, get_or, ℤ, Ok}
use Rattle.std.proofs.Math.Path.{refl, sym, ap}
use Rattle.std.proofs.Common.{◌∙◌, SFits}
use mathlib.Core.List.{List, [], ◌∷◌, ◌++◌}
use Rattle.std.proofs.Math.ListN.{length, length-append}
use Rattle.std.specs.Int.{w16}
use borrow.Author.Tests.{lt-ltb, le-leb, ne_eqb}
use Rattle.whole.specs.Bytes.{u16_bytes, i16_bytes, i32_bytes}
use Rattle.meaning.specs.Constraint.{Sum, Constraint, truth, at_most, equal, not, and, or, remainder}
use Rattle.meaning.specs.Limits.{Each, nodes, depth, Numbers, SumLimits, Divides}
use Rattle.cursor.specs.declared.Cursor.{Cursor}
use Rattle.cursor.specs.declared.Node.TheVariants as node-kinds
use Rattle.cursor.specs.Steps.{pick, byte_at, below_at, skip_at, number_at, kind_at, sum_at, remains_at, kinds, node_at, Read}
use Rattle.cursor.specs.Walk.{constraint_at}
use Rattle.cursor.specs.Tree.{joined, moved, coefficients_at, sum_of, grow, tree_at, tree-read}
use Rattle.encode.specs.Encode.{spell, sum_bytes, constraint_bytes}
use Rattle.encode.specs.Stands.{Stands, stands-room, stands-split}
use Rattle.encode.specs.Digits.{u16-length, i16-length, i32-length, u16-read, i16-read, i32-read}
use Rattle.reply.specs.Then.{go_on}

abbrev pub at : ℕ → ℕ → Cursor
at p l = record { at = p; left = l }

-- ---- lengths

pub spell-length : {A : Type 0} (f : A → List ℕ) (k : ℕ) → ((x : A) → length (f x) ≡ k) → (xs : List A) → length (spell f xs) ≡ length xs * k
unfolding spell
spell-length f k h [] = omega arith
spell-length f k h (x ∷ xs) = omega (arith, length-append (f x) (spell f xs), h x, spell-length f k h xs)

pub sum-length : {v : ℕ} (m : Sum) → SumLimits v m → length (sum_bytes m) ≡ v * 2 + 4
unfolding sum_bytes
sum-length m lim =
    omega (arith, lim.each, length-append (spell i16_bytes m.coefficients) (i32_bytes m.constant), spell-length i16_bytes 2 i16-length m.coefficients, i32-length m.constant)

-- ---- bytes and numbers

module _ (s : List ℕ) where
  pub byte-read : (p l : ℕ) {b : ℕ} → p < length s → get_or s p 0 ≡ b → byte_at s (at p l) ≡ Ok (b, at (p + 1) l)
  unfolding byte_at pick
  byte-read p l h e = rw (lt-ltb p (length s) h, e)

  pub below-read : (number n p l : ℕ) {b : ℕ} → p < length s → get_or s p 0 ≡ b → b < n → below_at number s n (at p l) ≡ Ok (b, at (p + 1) l)
  unfolding below_at go_on pick
  below-read number n p l {b} h e k = rw (byte-read p l h e, lt-ltb b n k)

  pub skip_read : (n p l : ℕ) → p + n ≤ length s → skip_at s n (at p l) ≡ Ok (at (p + n) l)
  unfolding skip_at pick
  skip_read n p l h = rw (le-leb (p + n) (length s) h)

  pub number_read : (p l n : ℕ) → Stands s p (u16_bytes n) → number_at s (at p l) ≡ Ok (n, at (p + 2) l)
  unfolding number_at go_on
  number_read p l n h = rw (skip_read 2 p l (omega (arith, stands-room s p (u16_bytes n) h, u16-length n)), u16-read s p n h)

  pub kind-read : (p l : ℕ) {k : ℕ} → p < length s → get_or s p 0 ≡ k → kind_at s (at p (suc l)) ≡ Ok (k, at (p + 1) l)
  unfolding kind_at go_on pick
  kind-read p l h e =
      let z : suc l - 1 ≡ l = omega arith in
      rw (byte-read p (suc l) h e, lt-ltb 0 (suc l) (omega arith), z)

  -- ---- sums

  coefficients-read : (p : ℕ) (zs : List ℤ) → Each (SFits w16) zs → Stands s p (spell i16_bytes zs) → coefficients_at (length zs) s p ≡ zs
  unfolding coefficients_at spell
  coefficients-read p [] f h = refl
  coefficients-read p (z ∷ zs) f h =
      let r = stands-split s p (i16_bytes z) (spell i16_bytes zs) h in
      rw (i16-read s p z f.0 r.0, coefficients-read (p + 2) zs f.1 (rw (i16-length z) at r.1))

  pub sum_is : (p v : ℕ) (m : Sum) → SumLimits v m → Stands s p (sum_bytes m) → sum_of s v p ≡ m
  unfolding sum_of sum_bytes
  sum_is p v m lim h =
      let r = stands-split s p (spell i16_bytes m.coefficients) (i32_bytes m.constant) h in
      let e : length (spell i16_bytes m.coefficients) ≡ length m.coefficients * 2 = spell-length i16_bytes 2 i16-length m.coefficients in
      rw (← lim.each, coefficients-read p m.coefficients lim.coefficients r.0, i32-read s _ m.constant lim.constant (rw e at r.1))

  pub sum-moves : (p v l : ℕ) (m : Sum) → SumLimits v m → Stands s p (sum_bytes m) → sum_at s v (at p l) ≡ Ok (at (p + (v * 2 + 4)) l)
  unfolding sum_at
  sum-moves p v l m lim h = skip_read (v * 2 + 4) p l (omega (arith, stands-room s p (sum_bytes m) h, sum-length m lim))

-- ---- constraints

up : (d : ℕ) → 0 < d → d ≡ suc (d - 1)
up d h = omega arith

-- `read` gets t where it stands: l is what is left of the count of nodes, q is where the tree ends
abbrev pub Gets : List ℕ → (Cursor → Read Constraint) → Constraint → Type 0
Gets s read t =
    (p left l q : ℕ) → left ≡ nodes t + l → q ≡ p + length (constraint_bytes t) → Stands s p (constraint_bytes t) → read (at p left) ≡ Ok (t, at q l)

-- one tree after the other
two-got : (s : List ℕ) (read : Cursor → Read Constraint) (f : Constraint → Constraint → Constraint) (t u : Constraint) → Gets s read t → Gets s read u →
    (p l q : ℕ) → q ≡ p + length (constraint_bytes t ++ constraint_bytes u) → Stands s p (constraint_bytes t ++ constraint_bytes u) →
    joined f read (at p (nodes t + (nodes u + l))) ≡ Ok (f t u, at q l)
unfolding go_on
two-got s read f t u x y p l q hq h =
    let r = stands-split s p (constraint_bytes t) (constraint_bytes u) h in
    let e : q ≡ p + length (constraint_bytes t) + length (constraint_bytes u) = omega (arith, length-append (constraint_bytes t) (constraint_bytes u)) in
    rw (x p _ (nodes u + l) _ refl refl r.0, y _ _ l q refl e r.1)

module _ (s : List ℕ) (v : ℕ) where
  -- a remainder's data
  remains-read : (p l : ℕ) (m : Sum) (d r : ℕ) → SumLimits v m → Divides d r → Stands s p (sum_bytes m ++ (u16_bytes d ++ u16_bytes r)) →
      remains_at s v (at p l) ≡ Ok (node-kinds.Remainder (record { sum = record { at = p }; d = d; r = r }), at (p + (v * 2 + 4) + 2 + 2) l)
  unfolding remains_at go_on pick
  remains-read p l m d r lim div h =
      let a = stands-split s p (sum_bytes m) (u16_bytes d ++ u16_bytes r) h in
      let b = stands-split s (p + (v * 2 + 4)) (u16_bytes d) (u16_bytes r) (rw (sum-length m lim) at a.1) in
      rw (
        sum-moves s p v l m lim a.0,
        number_read s (p + (v * 2 + 4)) l d b.0,
        ne_eqb d 0 (λ e. omega (arith, div.some)),
        number_read s (p + (v * 2 + 4) + 2) l r (rw (u16-length d) at b.1),
        lt-ltb r d div.less,
      )

  pub tree-got : (t : Constraint) (d : ℕ) → depth t ≤ d → Numbers v t → Gets s (tree_at s v d) t
  unfolding Stands constraint_bytes depth nodes Numbers tree_at node_at go_on kinds pick grow
  tree-got truth d hd n p left l q hl hq h =
      let e : left ≡ suc l = omega arith in
      let f : p + 1 ≡ q = omega arith in
      rw (up d hd, e, kind-read s p l h.0 h.1, f)
  tree-got (at_most m) d hd n p left l q hl hq h =
      let e : left ≡ suc l = omega arith in
      let f : p + 1 + (v * 2 + 4) ≡ q = omega (arith, sum-length m n) in
      rw (up d hd, e, kind-read s p l h.0 h.1, sum-moves s (p + 1) v l m n h.2, sum_is s (p + 1) v m n h.2, f)
  tree-got (equal m) d hd n p left l q hl hq h =
      let e : left ≡ suc l = omega arith in
      let f : p + 1 + (v * 2 + 4) ≡ q = omega (arith, sum-length m n) in
      rw (up d hd, e, kind-read s p l h.0 h.1, sum-moves s (p + 1) v l m n h.2, sum_is s (p + 1) v m n h.2, f)
  tree-got (not t) d hd n p left l q hl hq h =
      let e : left ≡ suc (nodes t + l) = omega arith in
      rw (
        up d (omega arith),
        e,
        kind-read s p (nodes t + l) h.0 h.1,
        tree-got t (d - 1) (omega arith) n (p + 1) (nodes t + l) l q refl (omega arith) h.2,
      )
  tree-got (and t u) d hd n p left l q hl hq h =
      let e : left ≡ suc (nodes t + (nodes u + l)) = omega arith in
      rw (up d (omega arith), e, kind-read s p (nodes t + (nodes u + l)) h.0 h.1)
      (two-got s (tree_at s v (d - 1)) and t u (tree-got t (d - 1) (omega arith) n.0) (tree-got u (d - 1) (omega arith) n.1) (p + 1) l q (omega arith) h.2)
  tree-got (or t u) d hd n p left l q hl hq h =
      let e : left ≡ suc (nodes t + (nodes u + l)) = omega arith in
      rw (up d (omega arith), e, kind-read s p (nodes t + (nodes u + l)) h.0 h.1)
      (two-got s (tree_at s v (d - 1)) or t u (tree-got t (d - 1) (omega arith) n.0) (tree-got u (d - 1) (omega arith) n.1) (p + 1) l q (omega arith) h.2)
  tree-got (remainder m a b) d hd n p left l q hl hq h =
      let e : left ≡ suc l = omega arith in
      let r = stands-split s (p + 1) (sum_bytes m) (u16_bytes a ++ u16_bytes b) h.2 in
      let f : p + 1 + (v * 2 + 4) + 2 + 2 ≡ q =
      omega (arith, sum-length m n.0, length-append (sum_bytes m) (u16_bytes a ++ u16_bytes b), length-append (u16_bytes a) (u16_bytes b), u16-length a, u16-length b) in
      rw (up d hd, e, kind-read s p l h.0 h.1, remains-read (p + 1) l m a b n.0 n.1 h.2, sum_is s (p + 1) v m n.0 r.0, f)

  pub constraint-read : (t : Constraint) (d : ℕ) → depth t ≤ d → Numbers v t → (p left l : ℕ) → left ≡ nodes t + l → Stands s p (constraint_bytes t) →
      constraint_at d s v (at p left) ≡ Ok (at (p + length (constraint_bytes t)) l)
  unfolding moved
  constraint-read t d hd n p left l hl h = sym (tree-read s v d (at p left)) ∙ ap moved (tree-got t d hd n p left l _ hl refl h)
