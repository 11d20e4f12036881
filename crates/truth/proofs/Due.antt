-- What is still due of a constraint's truth: the constraint at hand, and the second sides that wait.
use Prim.Native.Nat.{ℕ, suc, ◌+◌, ◌-◌, ◌*◌, ◌/◌, ◌%◌, ◌<◌, ◌≤◌, max}
use native.Mathlib.Omega.{arith}
use mathlib.Core.Path.{◌≡◌, refl, sym, ap, ◌∙◌}
use mathlib.Core.List.{List, [], ◌∷◌}
use mathlib.Core.Bool.{Bool, true, false, beq, ◌&&◌, ◌||◌}
use mathlib.Core.Bool as Bool
use lib.ListN.{length, get_or, take, drop, length-drop}
use lib.Seq.{length-take-le}
use lib.IntN.{ℤ}
use lib.Dec.{eqb}
use Rattle.meaning.specs.Constraint.{Constraint, holds}
use Rattle.meaning.specs.Limits.{depth}
use Rattle.cursor.specs.Steps.{pick}
use Rattle.cursor.specs.Steps.{Read}
use Rattle.cursor.specs.Meaning.{tree_of, tree_in}
use Rattle.cursor.specs.Sound.{IsTree}
use Rattle.truth.specs.declared.Leaf.{Leaf}
use Rattle.truth.specs.declared.Waiting.{Waiting}
use Rattle.truth.specs.Stood.{joins_of, size_of, leaf_of, join, Alone, Judged, Stood, Row, none, Rowed, Ended}
use Rattle.truth.specs.Sides.{Side, bits_of, code, until, Opened}
use Rattle.truth.proofs.Laws.{low-plain, within, alone-by, turned_by, joined_by, op, joint-of}
use Rattle.truth.proofs.Rows.{row-long, row_last}
use Rattle.truth.proofs.Trees.{tree-stands, tree-deep}
use Rattle.truth.proofs.Sides.{code-more, code-rest, code-want, code_fits, until-here, until-on}

-- ---- truths

same-turned : (want b : Bool) → beq want (Bool.not b) ≡ beq (Bool.not want) b
same-turned true true = refl
same-turned true false = refl
same-turned false true = refl
same-turned false false = refl

wanted-true : (b : Bool) → beq true b ≡ b
wanted-true true = refl
wanted-true false = refl

-- what a first side t and the second side's truth b come to
unfoldable pub choose : Side → Bool → Bool → Bool
choose f t b = pick (beq t f.first) (beq f.want b) t

module _ (want : Bool) where
  -- the side that waits where the two are joined by o
  abbrev side : Bool → Side
  side o = record { first = beq want o; want = want }

choose-and : (want a b : Bool) → choose (side want true) (beq want a) b ≡ beq want (a && b)
unfolding choose pick
choose-and true true b = refl
choose-and true false b = refl
choose-and false true b = refl
choose-and false false b = refl

choose_or : (want a b : Bool) → choose (side want false) (beq want a) b ≡ beq want (a || b)
unfolding choose pick
choose_or true true b = refl
choose_or true false b = refl
choose_or false true b = refl
choose_or false false b = refl

choose-join : (xs : List ℤ) (t u : Constraint) (want o : Bool) → choose (side want o) (beq want (holds xs t)) (holds xs u) ≡ beq want (holds xs (join o t u))
unfolding holds join
choose-join xs t u want true = choose-and want (holds xs t) (holds xs u)
choose-join xs t u want false = choose_or want (holds xs t) (holds xs u)

depth-join : (o : Bool) (t u : Constraint) → depth (join o t u) ≡ suc (max (depth t) (depth u))
unfolding depth join
depth-join true t u = refl
depth-join false t u = refl

-- ---- what is due

module _ (s : List ℕ) (v : ℕ) (xs : List ℤ) (whole : Bool) where
  -- what stands before the sides ends at q and is t
  pub data Waits : List Side → ℕ → Bool → Type 0 where
    last : {q : ℕ} {t : Bool} → t ≡ whole → Waits [] q t
    second : {f : Side} {fs : List Side} {q m : ℕ} {t : Bool} {u : Constraint} → Stood s v q u m → length fs + depth u ≤ 16 → Waits fs m (choose f t (holds xs u)) →
        Waits (f ∷ fs) q t

  -- a constraint stands at a, and the sides fs wait for it
  pub record Due (fs : List Side) (a : ℕ) (want : Bool) : Type 0 where
    pub tree : Constraint
    pub past : ℕ
    pub stood : Stood s v a tree past
    pub deep : length fs + depth tree ≤ 16
    pub waits : Waits fs past (beq want (holds xs tree))

  -- the same with the sides as a number
  pub record Waited (sides a : ℕ) (want : Bool) : Type 0 where
    pub list : List Side
    pub is : sides ≡ code list
    pub due : Due list a want
    pub here : a < length s

waited : {s : List ℕ} {v : ℕ} {xs : List ℤ} {whole : Bool} {sides a : ℕ} {want : Bool} (fs : List Side) → sides ≡ code fs → Due s v xs whole fs a want →
    Waited s v xs whole sides a want
waited fs e d = record { list = fs; is = e; due = d; here = omega (arith, within d.stood) }

pub waited-tree : (s : List ℕ) (v : ℕ) (xs : List ℤ) (p : ℕ) → IsTree s v p → Waited s v xs (holds xs (tree_in s v p)) 1 p true
unfolding tree_in tree_of code
waited-tree s v xs p w = waited [] refl (record {
  tree = w.tree;
  past = w.end.at;
  stood = tree-stands s v p w;
  deep = omega (arith, tree-deep s v p w);
  waits = last (wanted-true _ ∙ ap (λ (y : Read Constraint). holds xs (tree_of y)) (sym w.reads));
})

module _ {s : List ℕ} {v : ℕ} {xs : List ℤ} {whole : Bool} {sides a : ℕ} {want : Bool} (y : Waited s v xs whole sides a want) where
  pub waited-turned : get_or s a 0 ≡ 3 → Waited s v xs whole sides (a + 1) (Bool.not want)
  unfolding holds depth
  waited-turned h = waited y.list y.is (turned_by s v a
      (λ t q. length y.list + depth t ≤ 16 → Waits s v xs whole y.list q (beq want (holds xs t)) → Due s v xs whole y.list (a + 1) (Bool.not want)) h
      (λ t q w d k. record { tree = t; past = q; stood = w; deep = omega arith; waits = rw same-turned at k })
      y.due.stood y.due.deep y.due.waits)

  module _ {f : Bool} (e : f ≡ joins_of (get_or s a 0)) where
    pub waited-alone : (get_or s a 0 ≡ 3 → ⊥) → f ≡ false → Alone s v a (get_or s a 0)
    waited-alone h g = alone-by s v a (λ _ _. Alone s v a (get_or s a 0)) h (sym e ∙ g) (λ w. w) y.due.stood

    module _ (g : f ≡ true) where
      pub waited-fits : sides < 8589934592
      waited-fits = joined_by s v a (λ t q. length y.list + depth t ≤ 16 → sides < 8589934592) (op s a) (joint-of s a e g)
          (λ t u m q w x d. omega (arith, y.is, code_fits y.list (omega (arith, depth-join (op s a) t u)))) y.due.stood y.due.deep

      pub waited-joined : {o : Bool} {n : ℕ} → o ≡ beq want (op s a) → n ≡ bits_of o want → Waited s v xs whole (sides * 4 + n) (a + 1) want
      unfolding code
      waited-joined i j = waited (side want (op s a) ∷ y.list) (rw (j, i, y.is)) (joined_by s v a
          (λ t q. length y.list + depth t ≤ 16 → Waits s v xs whole y.list q (beq want (holds xs t)) → Due s v xs whole (side want (op s a) ∷ y.list) (a + 1) want)
          (op s a) (joint-of s a e g) first y.due.stood y.due.deep y.due.waits)
        where
          first : (t u : Constraint) (m q : ℕ) → Stood s v (a + 1) t m → Stood s v m u q → length y.list + depth (join (op s a) t u) ≤ 16 →
              Waits s v xs whole y.list q (beq want (holds xs (join (op s a) t u))) → Due s v xs whole (side want (op s a) ∷ y.list) (a + 1) want
          first t u m q w x d k =
              let h = depth-join (op s a) t u in
              let l : length y.list + depth u ≤ 16 = omega arith in
              let waits : Waits s v xs whole y.list q (choose (side want (op s a)) (beq want (holds xs t)) (holds xs u)) = rw (choose-join xs t u want (op s a)) k in
              record { tree = t; past = m; stood = w; deep = omega arith; waits = second x l waits }

-- the values from one place on
module _ (xs : List ℤ) (from v : ℕ) (h : from + v ≤ length xs) where
  pub part-is : take (from + v - from) (drop from xs) ≡ take v (drop from xs)
  part-is = let e : from + v - from ≡ v = omega arith in rw e

  pub part-long : length (take v (drop from xs)) ≡ v
  part-long = length-take-le v (drop from xs) (omega (arith, length-drop from xs))

-- ---- what the sides answer to a truth t of what ends at a

module _ (s : List ℕ) (v : ℕ) (xs : List ℤ) (whole t : Bool) (a : ℕ) where
  pub data Outcome : Waiting → Type 0 where
    done : {n : ℕ} → t ≡ whole → Outcome (record { sides = 1; passed = n })
    next : {n q : ℕ} (f : Side) {fs : List Side} → Row s v n a q → Due s v xs whole fs q f.want → Outcome (record { sides = code (f ∷ fs); passed = n })

  module _ (f : Side) {fs : List Side} {n q m : ℕ} {u : Constraint} (r : Row s v n a q) (w : Stood s v q u m) (d : length fs + depth u ≤ 16)
      (k : Waits s v xs whole fs m (choose f t (holds xs u))) where
    outcome-side : (b : Bool) → beq t f.first ≡ b → (Row s v (n + 1) a m → Waits s v xs whole fs m t → Outcome (until t fs (n + 1))) → Outcome (until t (f ∷ fs) n)
    unfolding choose pick
    outcome-side true e go = rw (until-here t f fs n e) (next f r (record { tree = u; past = m; stood = w; deep = d; waits = rw e at k }))
    outcome-side false e go = rw (until-on t f fs n e) (go (row_last r w) (rw e at k))

  outcome : (fs : List Side) {n q : ℕ} → Row s v n a q → Waits s v xs whole fs q t → Outcome (until t fs n)
  unfolding until
  outcome [] r (last e) = done e
  outcome (f ∷ fs) r (second w d k) = outcome-side f r w d k _ refl (λ x y. outcome fs x y)

module _ {s : List ℕ} {v : ℕ} {xs : List ℤ} {whole t : Bool} {a : ℕ} where
  pub outcome-done : {r : Waiting} → Outcome s v xs whole t a r → r.sides < 4 → t ≡ whole
  outcome-done (done e) l = e
  outcome-done (next f {fs} w d) l = absurd (let z : ⊥ = omega (arith, code-more f fs) in z)

  pub outcome-row : {r : Waiting} → Outcome s v xs whole t a r → 4 ≤ r.sides → Rowed s v r.passed a
  outcome-row (done e) l = absurd (let z : ⊥ = omega arith in z)
  outcome-row (next f {fs} w d) l = record { past = _; row = w; within = omega (arith, within d.stood) }

  pub outcome-grows : {r : Waiting} {q : ℕ} → Outcome s v xs whole t a r → 4 ≤ r.sides → Ended s v r.passed a q → a ≤ q
  outcome-grows (done e) l w = absurd (let z : ⊥ = omega arith in z)
  outcome-grows (next f {fs} x d) l w = omega (arith, row-long x, w.is x)

  pub outcome-next : {r : Waiting} {q : ℕ} → Outcome s v xs whole t a r → 4 ≤ r.sides → Ended s v r.passed a q →
      Waited s v xs whole (r.sides / 4) q (eqb (r.sides % 2) 1)
  outcome-next (done e) l w = absurd (let z : ⊥ = omega arith in z)
  outcome-next (next f {fs} x d) l w = waited fs (code-rest f fs) (rw (code-want f fs, w.is x) d)

-- a constraint with none below it, of which l is told
pub outcome-leaf : {s : List ℕ} {v : ℕ} {xs : List ℤ} {whole : Bool} {sides a : ℕ} {want f t : Bool} {l : Leaf} {r : Waiting} → Waited s v xs whole sides a want →
    f ≡ joins_of (get_or s a 0) → (get_or s a 0 ≡ 3 → ⊥) → f ≡ false → Judged s v a (get_or s a 0) xs l → t ≡ beq want l.met →
    Opened sides t r → Outcome s v xs whole t l.past r
outcome-leaf {s} {v} {xs} {whole} {a = a} {want = want} {t = t} {l = l} {r = r} y e h g i k o =
    alone-by s v a (λ u q. Waits s v xs whole y.list q (beq want (holds xs u)) → Outcome s v xs whole t l.past r) h (sym e ∙ g)
    (λ _ w. rw (o.is y.list y.is) (outcome s v xs whole t l.past y.list none (rw (← i.is, ← k, ← i.past) at w)))
    y.due.stood y.due.waits

-- a constraint of the first three kinds is judged without a walk
module _ (s : List ℕ) (v p : ℕ) (w : IsTree s v p) where
  pub low-here : p < length s
  low-here = omega (arith, within (tree-stands s v p w))

  module _ (h : get_or s p 0 < 3) where
    by-leaf : (P : Constraint → ℕ → Type 0) → (Alone s v p (get_or s p 0) → P (leaf_of s v p (get_or s p 0)) (p + size_of (get_or s p 0) v)) → P w.tree w.end.at
    by-leaf P k = alone-by s v p P (λ e. omega arith) (low-plain (get_or s p 0) h) k (tree-stands s v p w)

    pub low-alone : Alone s v p (get_or s p 0)
    low-alone = by-leaf (λ _ _. Alone s v p (get_or s p 0)) (λ a. a)

    pub low-is : (xs : List ℤ) {l : Leaf} → Judged s v p (get_or s p 0) xs l → l.met ≡ holds xs (tree_in s v p)
    unfolding tree_in tree_of
    low-is xs {l} j = by-leaf (λ t _. l.met ≡ holds xs t) (λ _. j.is) ∙ ap (λ (y : Read Constraint). holds xs (tree_of y)) (sym w.reads)

pub ruleset waiting = (waited-tree, waited-turned, waited-joined)
