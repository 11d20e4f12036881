-- What it means that a reading step succeeded, one law for each; before them, the ways out of a reading, each with its equation.
use Prim.Native.Nat.{ℕ, zero, suc, ◌+◌, ◌-◌, ◌*◌, ◌<◌, ◌≤◌}
use Rattle.std.proofs.Common.{arith, ap₂, ◌∙◌}
use Rattle.std.specs.Prelude.{◌≡◌, ◌⊎◌, List, Bool, get_or, eqb, Ok, Err}
use Rattle.std.proofs.Math.Path.{refl, sym, ap}
use Rattle.std.proofs.Math.Logic.{inl, inr}
use Rattle.std.proofs.Math.Bool.{true, false}
use Rattle.std.proofs.Math.ListN.{length}
use borrow.Author.Tests.{ltb-true, leb-true, eqb-true, eqb-false}
use Rattle.whole.specs.Bytes.{u16_at}
use Rattle.meaning.specs.Constraint.{Constraint, truth, at_most, equal, not, and, or, remainder}
use Rattle.cursor.specs.declared.Cursor.{Cursor}
use Rattle.cursor.specs.declared.Comparison.TheVariants.{AtMost, Equal}
use Rattle.cursor.specs.declared.Remains.{Remains}
use Rattle.cursor.specs.declared.Node.{Node}
use Rattle.cursor.specs.declared.Node.TheVariants as nodes
use Rattle.cursor.specs.declared.Clause.{Clause}
use Rattle.cursor.specs.Steps.{pick, kinds, moved, byte_at, below_at, relation_at, variable_at, skip_at, number_at, kind_at, sum_at, remains_at, node_at, Read}
use Rattle.cursor.specs.Walk.{constraint_at}
use Rattle.cursor.specs.Clause.{arguments_at, fact_at, body_at, parts_at, clause_at}
use Rattle.cursor.specs.Tree as trees
use Rattle.cursor.specs.Tree.{sum_of, grow, tree_at, tree-read}
use Rattle.reply.specs.Then.{no_err, same-read, went}

-- what holds on each way out holds
module _ {A : Type 0} (P : A → Type 0) where
  pub pick-by : (t : Bool) (y z : A) → (t ≡ true → P y) → (t ≡ false → P z) → P (pick t y z)
  unfolding pick
  pick-by true y z p q = p refl
  pick-by false y z p q = q refl

  pub kinds-by : (k : ℕ) (a b c d e f g o : A) → (k ≡ 0 → P a) → (k ≡ 1 → P b) → (k ≡ 2 → P c) → (k ≡ 3 → P d) → (k ≡ 4 → P e) → (k ≡ 5 → P f) →
      (k ≡ 6 → P g) → P o → P (kinds k a b c d e f g o)
  unfolding kinds
  kinds-by k a b c d e f g o pa pb pc pd pe pf pg po =
      pick-by _ _ _ (λ h. pa (eqb-true _ _ h)) λ _. pick-by _ _ _ (λ h. pb (eqb-true _ _ h)) λ _. pick-by _ _ _ (λ h. pc (eqb-true _ _ h)) λ _.
      pick-by _ _ _ (λ h. pd (eqb-true _ _ h)) λ _. pick-by _ _ _ (λ h. pe (eqb-true _ _ h)) λ _. pick-by _ _ _ (λ h. pf (eqb-true _ _ h)) λ _.
      pick-by _ _ _ (λ h. pg (eqb-true _ _ h)) λ _. po

-- go on with the way that came to x, where the other one cannot
module _ {A : Type 0} {x : A} {Q : Type 0} where
  pub pick-then : (t : Bool) (y z : A) → (z ≡ x → ⊥) → pick t y z ≡ x → (t ≡ true → y ≡ x → Q) → Q
  pick-then t y z n q k = pick-by (λ a. a ≡ x → Q) t y z k (λ h p. absurd (n p)) q

  pub pick-else : (t : Bool) (y z : A) → (y ≡ x → ⊥) → pick t y z ≡ x → (t ≡ false → z ≡ x → Q) → Q
  pick-else t y z n q k = pick-by (λ a. a ≡ x → Q) t y z (λ h p. absurd (n p)) k q

-- ---- bytes and numbers

-- what `omega` reads of a cursor that is told whole
pub at_of : {c e : Cursor} → e ≡ c → e.at ≡ c.at
at_of q = ap (λ (x : Cursor). x.at) q

pub left-of : {c e : Cursor} → e ≡ c → e.left ≡ c.left
left-of q = ap (λ (x : Cursor). x.left) q

pub same-cursor : {c e : Cursor} → e.at ≡ c.at → e.left ≡ c.left → e ≡ c
same-cursor p q = ap₂ (λ (a l : ℕ). record { at = a; left = l }) p q

-- the document's number of a node's kind
unfoldable pub kind_of : Node → ℕ
kind_of nodes.True = 0
kind_of (nodes.Compare (AtMost a)) = 1
kind_of (nodes.Compare (Equal a)) = 2
kind_of nodes.Not = 3
kind_of nodes.And = 4
kind_of nodes.Or = 5
kind_of (nodes.Remainder m) = 6

module _ (s : List ℕ) where
  pub record IsByte (c : Cursor) (b : ℕ) (e : Cursor) : Type 0 where
    pub there : c.at < length s
    pub is : b ≡ get_or s c.at 0
    pub next : e ≡ moved 1 c

  pub byte-read : (c : Cursor) {b : ℕ} {e : Cursor} → byte_at s c ≡ Ok (b, e) → IsByte c b e
  unfolding byte_at
  byte-read c q = pick-then _ _ _ (no_err _) q λ t r. let z = same-read r in record { there = ltb-true _ _ t; is = sym z.0; next = sym z.1 }

  pub record IsBelow (n : ℕ) (c : Cursor) (b : ℕ) (e : Cursor) : Type 0 where
    pub here : IsByte c b e
    pub below : b < n

  pub below-read : (number n : ℕ) (c : Cursor) {b : ℕ} {e : Cursor} → below_at number s n c ≡ Ok (b, e) → IsBelow n c b e
  unfolding below_at
  below-read number n c {b} q =
      went _ _ _ no_err q λ (a, d) p r.
      pick-then _ _ _ (no_err _) r λ t u.
      let same : a ≡ b = cc in
      record { here = byte-read c (p ∙ u); below = omega (arith, ltb-true a n t) }

  pub relation-read : (n : ℕ) (c : Cursor) {b : ℕ} {e : Cursor} → relation_at s n c ≡ Ok (b, e) → IsBelow n c b e
  unfolding relation_at
  relation-read n c q = below-read 5 n c q

  pub variable-read : (n : ℕ) (c : Cursor) {b : ℕ} {e : Cursor} → variable_at s n c ≡ Ok (b, e) → IsBelow n c b e
  unfolding variable_at
  variable-read n c q = below-read 6 n c q

  pub record IsSkip (n : ℕ) (c e : Cursor) : Type 0 where
    pub there : c.at + n ≤ length s
    pub next : e ≡ moved n c

  pub skip_read : (n : ℕ) (c : Cursor) {e : Cursor} → skip_at s n c ≡ Ok e → IsSkip n c e
  unfolding skip_at
  skip_read n c q = pick-then _ _ _ (no_err _) q λ t r. record { there = leb-true _ _ t; next = cc }

  pub record IsNumber (c : Cursor) (x : ℕ) (e : Cursor) : Type 0 where
    pub here : IsSkip 2 c e
    pub is : x ≡ u16_at s c.at

  pub number_read : (c : Cursor) {x : ℕ} {e : Cursor} → number_at s c ≡ Ok (x, e) → IsNumber c x e
  unfolding number_at
  number_read c {x} {e} q =
      went _ _ _ no_err q λ d p r.
      let z = same-read r in
      record { here = skip_read 2 c (p ∙ ap Ok z.1); is = sym z.0 }

  -- ---- nodes

  -- a kind byte, with a node left to count
  pub record IsKind (c : Cursor) (k : ℕ) (e : Cursor) : Type 0 where
    pub there : c.at < length s
    pub is : k ≡ get_or s c.at 0
    pub some : 0 < c.left
    pub next : e ≡ record { at = c.at + 1; left = c.left - 1 }

  pub kind-read : (c : Cursor) {k : ℕ} {e : Cursor} → kind_at s c ≡ Ok (k, e) → IsKind c k e
  unfolding kind_at
  kind-read c {k} {e} q =
      went _ _ _ no_err q λ (a, d) p r.
      pick-then _ _ _ (no_err _) r λ t u.
      let w = byte-read c p in
      let (same, last) = same-read u in
      let l : d.left ≡ c.left = left-of w.next in
      record { there = w.there; is = sym same ∙ w.is; some = omega (arith, ltb-true 0 d.left t); next = made d w.next last }
    where
      made : (d : Cursor) → d ≡ moved 1 c → record { at = d.at; left = d.left - 1 } ≡ e → e ≡ record { at = c.at + 1; left = c.left - 1 }
      made d n u = cc

  pub sum-read : (v : ℕ) (c : Cursor) {e : Cursor} → sum_at s v c ≡ Ok e → IsSkip (v * 2 + 4) c e
  unfolding sum_at
  sum-read v c q = skip_read (v * 2 + 4) c q

  -- a sum, a divisor and what is to be left
  pub record IsRemains (v : ℕ) (c : Cursor) (m : Remains) (e : Cursor) : Type 0 where
    pub sum : m.sum.at ≡ c.at
    pub there : c.at + (v * 2 + 4 + 4) ≤ length s
    pub divisor : m.d ≡ u16_at s (c.at + (v * 2 + 4))
    pub rest : m.r ≡ u16_at s (c.at + (v * 2 + 4) + 2)
    pub some : 0 < m.d
    pub less : m.r < m.d
    pub next : e ≡ moved (v * 2 + 4 + 4) c

  pub remains-read : (v : ℕ) (c : Cursor) {n : Node} {e : Cursor} → remains_at s v c ≡ Ok (n, e) →
      (m : Remains) × (nodes.Remainder m ≡ n) × IsRemains v c m e
  unfolding remains_at
  remains-read v c {n} {e} q =
      went _ _ _ no_err q λ c1 p1 q1.
      went _ _ _ no_err q1 λ (d, c2) p2 q2.
      pick-else _ _ _ (no_err _) q2 λ z q3.
      went _ _ _ no_err q3 λ (r, c3) p3 q4.
      pick-then _ _ _ (no_err _) q4 λ t q5.
      let w = sum-read v c p1 in
      let x = number_read c1 p2 in
      let y = number_read c2 p3 in
      let (same, last) = same-read q5 in
      let m1 : c1.at ≡ c.at + (v * 2 + 4) = at_of w.next in
      let m2 : c2.at ≡ c1.at + 2 = at_of x.here.next in
      let m3 : c3.at ≡ c2.at + 2 = at_of y.here.next in
      let l1 : c1.left ≡ c.left = left-of w.next in
      let l2 : c2.left ≡ c1.left = left-of x.here.next in
      let l3 : c3.left ≡ c2.left = left-of y.here.next in (
        record { sum = record { at = c.at }; d = d; r = r },
        same,
        record {
          sum = refl;
          there = omega (arith, y.here.there);
          divisor = x.is ∙ ap (u16_at s) m1;
          rest = y.is ∙ ap (u16_at s) (m2 ∙ omega arith);
          some = omega (arith, ltb-true r d t);
          less = ltb-true r d t;
          next = sym last ∙ same-cursor (omega arith) (l3 ∙ l2 ∙ l1);
        },
      )

  -- what stands after the kind byte
  unfoldable pub IsData : ℕ → Cursor → Node → Cursor → Type 0
  IsData v c nodes.True e = e ≡ c
  IsData v c (nodes.Compare (AtMost a)) e = (a.at ≡ c.at) × IsSkip (v * 2 + 4) c e
  IsData v c (nodes.Compare (Equal a)) e = (a.at ≡ c.at) × IsSkip (v * 2 + 4) c e
  IsData v c nodes.Not e = e ≡ c
  IsData v c nodes.And e = e ≡ c
  IsData v c nodes.Or e = e ≡ c
  IsData v c (nodes.Remainder m) e = IsRemains v c m e

  pub record IsNode (v : ℕ) (c : Cursor) (n : Node) (e : Cursor) : Type 0 where
    pub inner : Cursor
    pub kind : IsKind c (kind_of n) inner
    pub holds : IsData v inner n e

  node-is : (v : ℕ) (c : Cursor) {n : Node} {e : Cursor} (m : Node) (d : Cursor) (k : ℕ) (i : Cursor) → k ≡ kind_of m → kind_at s c ≡ Ok (k, i) →
      IsData v i m d → ◌≡◌ {A = Read Node} (Ok (m, d)) (Ok (n, e)) → IsNode v c n e
  node-is v c {n} {e} m d k i h p w q =
      let (x, y) = same-read q in
      rw (← x, ← y) (record { inner = i; kind = rw h at (kind-read c p); holds = w })

  pub node-read : (v : ℕ) (c : Cursor) {n : Node} {e : Cursor} → node_at s v c ≡ Ok (n, e) → IsNode v c n e
  unfolding node_at kind_of IsData
  node-read v c {n} {e} q =
      went _ _ _ no_err q λ (k, i) p r.
      kinds-by (λ a. a ≡ Ok (n, e) → IsNode v c n e) k _ _ _ _ _ _ _ _
      (λ h w. node-is v c nodes.True i k i h p refl w)
      (λ h w. went _ _ _ no_err w λ d x y. node-is v c (nodes.Compare (AtMost (record { at = i.at }))) d k i h p (refl, sum-read v i x) y)
      (λ h w. went _ _ _ no_err w λ d x y. node-is v c (nodes.Compare (Equal (record { at = i.at }))) d k i h p (refl, sum-read v i x) y)
      (λ h w. node-is v c nodes.Not i k i h p refl w)
      (λ h w. node-is v c nodes.And i k i h p refl w)
      (λ h w. node-is v c nodes.Or i k i h p refl w)
      (λ h w. let x = remains-read v i w in node-is v c (nodes.Remainder x.0) e k i h p x.2 (ap (λ (m : Node). Ok (m, e)) x.1))
      (λ w. absurd (no_err _ w))
      r

  -- ---- clause records

  -- k arguments from p on, each one of v variables
  pub record Arguments (v p k : ℕ) : Type 0 where
    pub within : p + k ≤ length s
    pub each : (j : ℕ) → j < k → get_or s (p + j) 0 < v

  pub record AreArguments (v k : ℕ) (c e : Cursor) : Type 0 where
    pub are : Arguments v c.at k
    pub next : e ≡ moved k c

  no_arguments : (v p : ℕ) → p ≤ length s → Arguments v p 0
  no_arguments v p h = record { within = omega arith; each = λ j i. absurd (let z : ⊥ = omega arith in z) }

  more-arguments : (v k : ℕ) (c : Cursor) {b : ℕ} {e : Cursor} → IsBelow v c b e → Arguments v (c.at + 1) k → Arguments v c.at (suc k)
  more-arguments v k c {b} w a = record { within = omega (arith, a.within); each = go }
    where
      go : (j : ℕ) → j < suc k → get_or s (c.at + j) 0 < v
      go zero h = let z : c.at + 0 ≡ c.at = omega arith in rw (z, ← w.here.is) w.below
      go (suc j) h = let z : c.at + suc j ≡ c.at + 1 + j = omega arith in rw z (a.each j (omega arith))

  pub arguments-read : (k v : ℕ) (c : Cursor) {e : Cursor} → c.at ≤ length s → arguments_at k s v c ≡ Ok e → AreArguments v k c e
  unfolding arguments_at
  arguments-read zero v c {e} h q =
      let same : c ≡ e = cc in
      record { are = no_arguments v c.at h; next = sym same ∙ same-cursor (omega arith) refl }
  arguments-read (suc k) v c {e} h q =
      went _ _ _ no_err q λ (b, d) p r.
      let w = variable-read v c p in
      let m : d.at ≡ c.at + 1 = at_of w.here.next in
      let t : c.at < length s = w.here.there in
      let a = arguments-read k v d (omega arith) r in
      record {
        are = more-arguments v k c w (rw m at a.are);
        next = same-cursor (omega (arith, at_of a.next)) (left-of a.next ∙ left-of w.here.next);
      }

  -- a relation below n and its arguments
  pub record IsFact (n v : ℕ) (c : Cursor) (b : ℕ) (e : Cursor) : Type 0 where
    pub there : c.at < length s
    pub is : b ≡ get_or s c.at 0
    pub below : b < n
    pub arguments : Arguments v (c.at + 1) (get_or s b 0)
    pub next : e ≡ moved (1 + get_or s b 0) c

  pub fact-read : (n v : ℕ) (c : Cursor) {b : ℕ} {e : Cursor} → fact_at s n v c ≡ Ok (b, e) → IsFact n v c b e
  unfolding fact_at
  fact-read n v c {b} {e} q =
      went _ _ _ no_err q λ (a, d) p r.
      went _ _ _ no_err r λ f x y.
      let (same, last) = same-read y in
      go d (relation-read n c (p ∙ ap (λ (k : ℕ). Ok (k, d)) same)) (rw (same, last) at x)
    where
      go : (d : Cursor) → IsBelow n c b d → arguments_at (get_or s b 0) s v d ≡ Ok e → IsFact n v c b e
      go d w x =
          let m : d.at ≡ c.at + 1 = at_of w.here.next in
          let t : c.at < length s = w.here.there in
          let a = arguments-read (get_or s b 0) v d (omega arith) x in
          record {
            there = t;
            is = w.here.is;
            below = w.below;
            arguments = rw m at a.are;
            next = same-cursor (omega (arith, at_of a.next)) (left-of a.next ∙ left-of w.here.next);
          }

  -- 255 alone, or a fact
  abbrev pub IsBody : ℕ → ℕ → Cursor → ℕ → Cursor → Type 0
  IsBody n v c b e = ((b ≡ 255) × IsByte c b e) ⊎ ((b ≡ 255 → ⊥) × IsFact n v c b e)

  pub body-read : (n v : ℕ) (c : Cursor) {b : ℕ} {e : Cursor} → body_at s n v c ≡ Ok (b, e) → IsBody n v c b e
  unfolding body_at
  body-read n v c {b} {e} q =
      went _ _ _ no_err q λ (a, d) p r.
      pick-by (λ x. x ≡ Ok (b, e) → IsBody n v c b e) (eqb a 255) _ _
      (λ t w. let same : a ≡ b = cc in inl (sym same ∙ eqb-true a 255 t, byte-read c (p ∙ w)))
      (λ t w. let f = fact-read n v c w in inr (λ z. eqb-false a 255 t ((byte-read c p).is ∙ sym f.is ∙ z), f))
      r

  -- the number of variables, body, head, and where the constraint starts
  pub record IsParts (n : ℕ) (c : Cursor) (l : Clause) (e : Cursor) : Type 0 where
    pub first : Cursor
    pub second : Cursor
    pub variables : IsBelow 17 c l.variables first
    pub body : IsBody n l.variables first l.body second
    pub body_at : l.body_at ≡ first.at
    pub head : IsFact n l.variables second l.head e
    pub head_at : l.head_at ≡ second.at
    pub rule : l.rule ≡ e.at

  pub parts-read : (n : ℕ) (c : Cursor) {l : Clause} {e : Cursor} → parts_at s n c ≡ Ok (l, e) → IsParts n c l e
  unfolding parts_at
  parts-read n c {l} {e} q =
      went _ _ _ no_err q λ (v, c1) p1 q1.
      went _ _ _ no_err q1 λ (b, c2) p2 q2.
      went _ _ _ no_err q2 λ (h, c3) p3 q3.
      let (same, last) = same-read q3 in
      rw (← same, ← last) (record {
        first = c1;
        second = c2;
        variables = variable-read 17 c p1;
        body = body-read n v c1 p2;
        body_at = refl;
        head = fact-read n v c2 p3;
        head_at = refl;
        rule = refl;
      })

  -- a constraint that was read is a tree
  pub constraint-read : (depth v : ℕ) (c : Cursor) {e : Cursor} → constraint_at depth s v c ≡ Ok e → (t : Constraint) × (tree_at s v depth c ≡ Ok (t, e))
  unfolding trees.moved
  constraint-read depth v c {e} q = go (tree_at s v depth c) (tree-read s v depth c ∙ q)
    where
      go : (y : Read Constraint) → trees.moved y ≡ Ok e → (t : Constraint) × (y ≡ Ok (t, e))
      go (Ok (t, d)) k = let same : d ≡ e = cc in (t, ap (λ (c : Cursor). Ok (t, c)) same)
      go (Err r) k = absurd (no_err r k)

  pub record IsClause (n : ℕ) (c : Cursor) (l : Clause) (e : Cursor) : Type 0 where
    pub middle : Cursor
    pub parts : IsParts n c l middle
    pub same : parts_at s n c ≡ Ok (l, middle)
    pub tree : Constraint
    pub reads : tree_at s l.variables 16 (record { at = l.rule; left = 64 }) ≡ Ok (tree, e)

  pub clause-read : (n : ℕ) (c : Cursor) {l : Clause} {e : Cursor} → clause_at s n c ≡ Ok (l, e) → IsClause n c l e
  unfolding clause_at
  clause-read n c {l} {e} q =
      went _ _ _ no_err q λ (k, i) p r.
      went _ _ _ no_err r λ d x y.
      let (one, last) = same-read y in
      let w = parts-read n c p in
      let t = constraint-read 16 k.variables (record { at = i.at; left = 64 }) x in
      rw (← one, ← last) (record { middle = i; parts = w; same = p; tree = t.0; reads = rw w.rule t.1 })

-- ---- trees: what the seven kinds keep holds of every tree that was read

module _ (s : List ℕ) (v : ℕ) (P : ℕ → Cursor → Constraint → Cursor → Type 0) where
  pub record Keeps : Type 0 where
    pub truths : {d : ℕ} {c e : Cursor} → IsKind s c 0 e → P (suc d) c truth e
    pub at-mosts : {d : ℕ} {c i e : Cursor} → IsKind s c 1 i → IsSkip s (v * 2 + 4) i e → P (suc d) c (at_most (sum_of s v i.at)) e
    pub equals : {d : ℕ} {c i e : Cursor} → IsKind s c 2 i → IsSkip s (v * 2 + 4) i e → P (suc d) c (equal (sum_of s v i.at)) e
    pub nots : {d : ℕ} {c i e : Cursor} {t : Constraint} → IsKind s c 3 i → P d i t e → P (suc d) c (not t) e
    pub ands : {d : ℕ} {c i j e : Cursor} {t u : Constraint} → IsKind s c 4 i → P d i t j → P d j u e → P (suc d) c (and t u) e
    pub ors : {d : ℕ} {c i j e : Cursor} {t u : Constraint} → IsKind s c 5 i → P d i t j → P d j u e → P (suc d) c (or t u) e
    pub remainders : {d : ℕ} {c i e : Cursor} {m : Remains} → IsKind s c 6 i → IsRemains s v i m e →
        P (suc d) c (remainder (sum_of s v i.at) m.d m.r) e

  module _ (keeps : Keeps) where
    is-grown : (d : ℕ) (c : Cursor) {t u : Constraint} {e f : Cursor} → P d c t e → ◌≡◌ {A = Read Constraint} (Ok (t, e)) (Ok (u, f)) → P d c u f
    is-grown d c {t} {u} {e} {f} w q =
        let (x, y) = same-read q in
        rw (← x, ← y) w

    grown : (d : ℕ) (read : Cursor → Read Constraint) → ((c : Cursor) (t : Constraint) (e : Cursor) → read c ≡ Ok (t, e) → P d c t e) →
        (n : Node) (c : Cursor) {i e : Cursor} {t : Constraint} → IsNode s v c n i → grow s v n read i ≡ Ok (t, e) → P (suc d) c t e
    unfolding kind_of IsData grow
    grown d read h nodes.True c w q = is-grown (suc d) c (keeps.truths (rw w.holds w.kind)) q
    grown d read h (nodes.Compare (AtMost a)) c w q = is-grown (suc d) c (rw w.holds.0 (keeps.at-mosts w.kind w.holds.1)) q
    grown d read h (nodes.Compare (Equal a)) c w q = is-grown (suc d) c (rw w.holds.0 (keeps.equals w.kind w.holds.1)) q
    grown d read h nodes.Not c {i} w q =
        went _ _ _ no_err q λ (t, e) p r. is-grown (suc d) c (keeps.nots (rw w.holds w.kind) (h i _ _ p)) r
    grown d read h nodes.And c {i} w q =
        went _ _ _ no_err q λ (t, j) p r. went _ _ _ no_err r λ (u, e) x y. is-grown (suc d) c (keeps.ands (rw w.holds w.kind) (h i _ _ p) (h j _ _ x)) y
    grown d read h nodes.Or c {i} w q =
        went _ _ _ no_err q λ (t, j) p r. went _ _ _ no_err r λ (u, e) x y. is-grown (suc d) c (keeps.ors (rw w.holds w.kind) (h i _ _ p) (h j _ _ x)) y
    grown d read h (nodes.Remainder m) c w q = is-grown (suc d) c (rw w.holds.sum (keeps.remainders w.kind w.holds)) q

    pub tree-by : (d : ℕ) (c : Cursor) {t : Constraint} {e : Cursor} → tree_at s v d c ≡ Ok (t, e) → P d c t e
    unfolding tree_at
    tree-by zero c q = went _ _ _ no_err q λ (b, e) p r. absurd (no_err _ r)
    tree-by (suc d) c q = went _ _ _ no_err q λ (n, i) p r. grown d (tree_at s v d) (λ j t e. tree-by d j) n c (node-read s v c p) r
