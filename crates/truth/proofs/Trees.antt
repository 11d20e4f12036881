-- What is read as a tree stands in the bytes, and is at most as deep as it was read.
use Prim.Native.Nat.{ℕ, ◌+◌, ◌*◌, ◌<◌, ◌≤◌}
use native.Mathlib.Omega.{arith}
use mathlib.Core.Path.{◌≡◌, refl, sym, ap, ◌∙◌}
use mathlib.Core.List.{List}
use mathlib.Core.Bool.{true, false}
use lib.ListN.{length, get_or}
use Rattle.whole.specs.Bytes.{u16_at}
use Rattle.meaning.specs.Constraint.{Sum, Constraint, truth, at_most, equal, remainder}
use Rattle.meaning.specs.Limits.{depth}
use Rattle.cursor.specs.declared.Cursor.{Cursor}
use Rattle.cursor.specs.declared.Remains.{Remains}
use Rattle.cursor.specs.Steps.{pick}
use Rattle.cursor.specs.Tree.{sum_of}
use Rattle.cursor.specs.Inverse.{Keeps, IsKind, IsSkip, IsRemains, at_of, tree-by}
use Rattle.cursor.specs.Sound.{IsTree}
use Rattle.truth.specs.Stood.{joins_of, size_of, leaf_of, join, joint, Alone, Stood, alone, turned, joined}

module _ (s : List ℕ) (v : ℕ) where
  stood-leaf : (k : ℕ) {p q : ℕ} {t : Constraint} → k ≡ get_or s p 0 → (k ≡ 3 → ⊥) → joins_of k ≡ false → (5 < k → 0 < u16_at s (p + 5 + v * 2)) →
      t ≡ leaf_of s v p k → q ≡ p + size_of k v → q ≤ length s → Stood s v p t q
  stood-leaf k {p} e a b d f g h =
      let w : Alone s v p k = record { there = omega arith; single = a; plain = b; divisor = d } in
      alone (rw e at w) (rw e at f) (rw e at g)

  true-stands : {c e : Cursor} → IsKind s c 0 e → Stood s v c.at truth e.at
  unfolding size_of leaf_of joins_of pick
  true-stands k = stood-leaf 0 k.is (λ z. omega arith) refl (λ z. omega arith) refl (at_of k.next) (omega (arith, k, at_of k.next))

  sum-stands : (k : ℕ) (f : Sum → Constraint) {c i e : Cursor} → (k ≡ 3 → ⊥) → joins_of k ≡ false → k < 3 → ((p : ℕ) → f (sum_of s v (p + 1)) ≡ leaf_of s v p k) →
      size_of k v ≡ 5 + v * 2 → IsKind s c k i → IsSkip s (v * 2 + 4) i e → Stood s v c.at (f (sum_of s v i.at)) e.at
  sum-stands k f {c} {i} {e} a b l leaf size w x =
      let first : i.at ≡ c.at + 1 = at_of w.next in
      let last : e.at ≡ i.at + (v * 2 + 4) = at_of x.next in
      stood-leaf k w.is a b (λ z. omega arith) (ap (λ (p : ℕ). f (sum_of s v p)) first ∙ leaf c.at) (omega arith) (omega (arith, x.there))

  remainder-stands : {c i e : Cursor} {m : Remains} → IsKind s c 6 i → IsRemains s v i m e → Stood s v c.at (remainder (sum_of s v i.at) m.d m.r) e.at
  unfolding size_of leaf_of joins_of pick
  remainder-stands {c} {i} {e} {m} w x =
      let first : i.at ≡ c.at + 1 = at_of w.next in
      let last : e.at ≡ i.at + (v * 2 + 4 + 4) = at_of x.next in
      let after : i.at + (v * 2 + 4) ≡ c.at + 5 + v * 2 = omega arith in
      let d : m.d ≡ u16_at s (c.at + 5 + v * 2) = x.divisor ∙ ap (u16_at s) after in
      let r : m.r ≡ u16_at s (c.at + 5 + v * 2 + 2) = x.rest ∙ ap (λ (p : ℕ). u16_at s (p + 2)) after in
      stood-leaf 6 w.is (λ z. omega arith) refl (λ z. omega (arith, d, x.some)) (rw (first, d, r)) (omega arith) (omega (arith, x.there))

  abbrev Stands : ℕ → Cursor → Constraint → Cursor → Type 0
  Stands d c t e = Stood s v c.at t e.at

  keeps : Keeps s v Stands
  unfolding join joint size_of leaf_of joins_of pick
  keeps = record {
    truths = true-stands;
    at-mosts = sum-stands 1 at_most (λ z. omega arith) refl (omega arith) (λ p. refl) refl;
    equals = sum-stands 2 equal (λ z. omega arith) refl (omega arith) (λ p. refl) refl;
    nots = λ k w. turned (sym k.is) (rw (at_of k.next) at w);
    ands = λ k w x. joined true (sym k.is) (rw (at_of k.next) at w) x;
    ors = λ k w x. joined false (sym k.is) (rw (at_of k.next) at w) x;
    remainders = remainder-stands;
  }

  deep : Keeps s v (λ d c t e. depth t ≤ d)
  unfolding depth
  deep = record {
    truths = λ k. omega arith;
    at-mosts = λ k w. omega arith;
    equals = λ k w. omega arith;
    nots = λ k w. omega arith;
    ands = λ k w x. omega arith;
    ors = λ k w x. omega arith;
    remainders = λ k w. omega arith;
  }

  pub tree-stands : (p : ℕ) (w : IsTree s v p) → Stood s v p w.tree w.end.at
  tree-stands p w = tree-by s v Stands keeps 16 _ w.reads

  pub tree-deep : (p : ℕ) (w : IsTree s v p) → depth w.tree ≤ 16
  tree-deep p w = tree-by s v (λ d c t e. depth t ≤ d) deep 16 _ w.reads
