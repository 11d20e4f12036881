-- A constraint that was read in a list of bytes stands there, written, and keeps the limits.
use Prim.Native.Nat.{ℕ, zero, suc, ◌+◌, ◌*◌, ◌≤◌, max}
use native.Mathlib.Omega.{arith}
use Rattle.std.specs.Prelude.{◌≡◌, length, Ok}
use Rattle.std.proofs.Math.Path.{refl, sym, ap}
use Rattle.std.proofs.Common.{◌∙◌, length-append}
use mathlib.Core.List.{List, [], ◌∷◌, ◌++◌}
use mir.Syntax.{w16, w32}
use mir.Val.{Fits, SFits}
use Rattle.std.proofs.Math.Facts.{sfits_to_z}
use Rattle.whole.specs.Bytes.{u16_at, i16_at, i32_at, u16_bytes, i16_bytes, i32_bytes}
use Rattle.meaning.specs.Constraint.{Constraint}
use Rattle.meaning.specs.Limits.{Each, nodes, depth, Numbers, SumLimits, Divides}
use Rattle.cursor.specs.declared.Cursor.{Cursor}
use Rattle.cursor.specs.declared.Remains.{Remains}
use Rattle.cursor.specs.Tree.{coefficients_at, sum_of, tree_at}
use Rattle.cursor.specs.Inverse.{at_of, left-of, IsSkip, IsKind, IsRemains, Keeps, tree-by}
use Rattle.encode.specs.Encode.{spell, sum_bytes, constraint_bytes}
use Rattle.encode.specs.Stands.{Stands, Bytes, stands_at, stands-join}
use Rattle.encode.specs.Digits.{u16-length, i16-length, i32-length, u16-small, u32-small, u16-written, i16-written, i32-written}

-- the word from p up to q
pub record Spans (s : List ℕ) (p q : ℕ) (w : List ℕ) : Type 0 where
  pub stands : Stands s p w
  pub past : q ≡ p + length w

pub spans-join : {s : List ℕ} {p q r : ℕ} (u w : List ℕ) → Spans s p q u → Spans s q r w → Spans s p r (u ++ w)
spans-join {s} {p} u w h k = record {
  stands = stands-join s p u w h.stands (stands_at s w h.past k.stands);
  past = omega (arith, h, k, length-append u w);
}

-- what was read from c to e is the word w, n nodes of depth h at most d, and N holds
pub record Reads (s : List ℕ) (d : ℕ) (c e : Cursor) (w : List ℕ) (n h : ℕ) (N : Type 0) : Type 0 where
  pub word : Spans s c.at e.at w
  pub count : e.left + n ≡ c.left
  pub shallow : h ≤ d
  pub keeps : N

module _ (s : List ℕ) (bytes : Bytes s) where
  -- ---- sums

  pub i16-fits : (p : ℕ) → p + 2 ≤ length s → SFits w16 (i16_at s p)
  unfolding i16_at
  i16-fits p h = let f : Fits w16 (u16_at s p) = record { fits = u16-small s bytes p h } in sfits_to_z f

  pub i32-fits : (p : ℕ) → p + 4 ≤ length s → SFits w32 (i32_at s p)
  unfolding i32_at
  i32-fits p h = sfits_to_z (record { fits = u32-small s bytes p h })

  pub u16-spans : (p : ℕ) → p + 2 ≤ length s → Spans s p (p + 2) (u16_bytes (u16_at s p))
  u16-spans p h = record { stands = u16-written s bytes p h; past = rw u16-length }

  pub i16-spans : (p : ℕ) → p + 2 ≤ length s → Spans s p (p + 2) (i16_bytes (i16_at s p))
  i16-spans p h = record { stands = i16-written s bytes p h; past = rw i16-length }

  pub i32-spans : (p : ℕ) → p + 4 ≤ length s → Spans s p (p + 4) (i32_bytes (i32_at s p))
  i32-spans p h = record { stands = i32-written s bytes p h; past = rw i32-length }

  coefficients-spans : (v p : ℕ) → p + v * 2 ≤ length s → Spans s p (p + v * 2) (spell i16_bytes (coefficients_at v s p))
  unfolding spell coefficients_at Stands
  coefficients-spans zero p h = record { stands = omega arith; past = omega arith }
  coefficients-spans (suc v) p h =
      let z : p + suc v * 2 ≡ p + 2 + v * 2 = omega arith in
      rw z (spans-join (i16_bytes (i16_at s p)) _ (i16-spans p (omega arith)) (coefficients-spans v (p + 2) (omega arith)))

  coefficients-fit : (v p : ℕ) → p + v * 2 ≤ length s → Each (SFits w16) (coefficients_at v s p)
  unfolding coefficients_at
  coefficients-fit zero p h = tt
  coefficients-fit (suc v) p h = (i16-fits p (omega arith), coefficients-fit v (p + 2) (omega arith))

  coefficients-count : (v p : ℕ) → length (coefficients_at v s p) ≡ v
  unfolding coefficients_at
  coefficients-count zero p = refl
  coefficients-count (suc v) p = ap suc (coefficients-count v (p + 2))

  module _ (v p : ℕ) (h : p + (v * 2 + 4) ≤ length s) where
    sum-limits : SumLimits v (sum_of s v p)
    unfolding sum_of
    sum-limits = record {
      each = coefficients-count v p;
      coefficients = coefficients-fit v p (omega arith);
      constant = i32-fits (p + v * 2) (omega arith);
    }

    sum-spans : Spans s p (p + (v * 2 + 4)) (sum_bytes (sum_of s v p))
    unfolding sum_of sum_bytes
    sum-spans =
        let z : p + (v * 2 + 4) ≡ p + v * 2 + 4 = omega arith in
        rw z (spans-join (spell i16_bytes (coefficients_at v s p)) _ (coefficients-spans v p (omega arith)) (i32-spans (p + v * 2) (omega arith)))

  -- ---- nodes

  kind-spans : {c i : Cursor} {k : ℕ} → IsKind s c k i → Spans s c.at i.at (k ∷ [])
  unfolding Stands
  kind-spans k = record { stands = (k.there, sym k.is, omega (arith, k)); past = at_of k.next }

  -- none, one or two nodes after a kind byte
  leaf : {d : ℕ} {c i e : Cursor} {k : ℕ} {N : Type 0} (w : List ℕ) → IsKind s c k i → Spans s i.at e.at w → e.left ≡ i.left → N →
      Reads s (suc d) c e (k ∷ w) 1 1 N
  leaf {k = b} w k h l n = record {
    word = spans-join (b ∷ []) w (kind-spans k) h;
    count = omega (arith, k, left-of k.next);
    shallow = omega arith;
    keeps = n;
  }

  one : {d : ℕ} {c i e : Cursor} {k : ℕ} {w : List ℕ} {n h : ℕ} {N : Type 0} → IsKind s c k i → Reads s d i e w n h N →
      Reads s (suc d) c e (k ∷ w) (suc n) (suc h) N
  one {k = b} {w = w} k r = record {
    word = spans-join (b ∷ []) w (kind-spans k) r.word;
    count = omega (arith, r, k, left-of k.next);
    shallow = omega (arith, r);
    keeps = r.keeps;
  }

  two : {d : ℕ} {c i j e : Cursor} {k : ℕ} {w w' : List ℕ} {n n' h h' : ℕ} {N N' : Type 0} → IsKind s c k i → Reads s d i j w n h N → Reads s d j e w' n' h' N' →
      Reads s (suc d) c e (k ∷ (w ++ w')) (suc (n + n')) (suc (max h h')) (N × N')
  two {k = b} {w = w} {w' = w'} k r t = record {
    word = spans-join (b ∷ []) (w ++ w') (kind-spans k) (spans-join w w' r.word t.word);
    count = omega (arith, r, t, k, left-of k.next);
    shallow = omega (arith, r, t);
    keeps = (r.keeps, t.keeps);
  }

  module _ (v : ℕ) where
    abbrev ReadsTree : ℕ → Cursor → Constraint → Cursor → Type 0
    ReadsTree d c t e = Reads s d c e (constraint_bytes t) (nodes t) (depth t) (Numbers v t)

    sum-leaf : {d : ℕ} {c i e : Cursor} {k : ℕ} → IsKind s c k i → IsSkip s (v * 2 + 4) i e →
        Reads s (suc d) c e (k ∷ sum_bytes (sum_of s v i.at)) 1 1 (SumLimits v (sum_of s v i.at))
    sum-leaf {i = i} k w =
        leaf (sum_bytes (sum_of s v i.at)) k (rw (at_of w.next) (sum-spans v i.at w.there)) (left-of w.next) (sum-limits v i.at w.there)

    remainder-leaf : {d : ℕ} {c i e : Cursor} {k : ℕ} {m : Remains} → IsKind s c k i → IsRemains s v i m e →
        Reads s (suc d) c e (k ∷ (sum_bytes (sum_of s v i.at) ++ (u16_bytes m.d ++ u16_bytes m.r))) 1 1 (SumLimits v (sum_of s v i.at) × Divides m.d m.r)
    remainder-leaf {i = i} {e = e} {m = m} k w =
        let room : i.at + (v * 2 + 4 + 4) ≤ length s = w.there in
        let p : ℕ = i.at + (v * 2 + 4) in
        let end : e.at ≡ p + 2 + 2 = at_of w.next ∙ omega arith in
        leaf (sum_bytes (sum_of s v i.at) ++ (u16_bytes m.d ++ u16_bytes m.r)) k
        (rw end (spans-join (sum_bytes (sum_of s v i.at)) _ (sum-spans v i.at (omega arith))
        (spans-join {q = p + 2} (u16_bytes m.d) (u16_bytes m.r) (rw w.divisor (u16-spans p (omega arith))) (rw w.rest (u16-spans (p + 2) (omega arith))))))
        (left-of w.next) (
          sum-limits v i.at (omega arith),
          record {
            some = w.some;
            small = rw w.divisor (u16-small s bytes p (omega arith));
            less = w.less;
          },
        )

    keeps : Keeps s v ReadsTree
    unfolding constraint_bytes nodes depth Numbers Stands
    keeps = record {
      truths = λ k. leaf [] k (record { stands = omega (arith, k, at_of k.next); past = omega arith }) refl tt;
      at-mosts = sum-leaf;
      equals = sum-leaf;
      nots = one;
      ands = two;
      ors = two;
      remainders = remainder-leaf;
    }

    pub tree-written : (d : ℕ) (c : Cursor) {t : Constraint} {e : Cursor} → tree_at s v d c ≡ Ok (t, e) → ReadsTree d c t e
    tree-written d c q = tree-by s v ReadsTree keeps d c q
