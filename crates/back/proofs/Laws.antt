-- The laws of measuring and of walking back.
use mathlib.Core.Path.{◌≡◌, refl, sym, ap, ◌∙◌}
use mathlib.Core.Logic.{◌≢◌}
use mathlib.Core.Bool.{Bool, true, false}
use mathlib.Core.Option.{some}
use mathlib.Core.List.{List, [], ◌∷◌, ◌++◌, append_assoc}
use Prim.Native.Nat.{ℕ, zero, suc, ◌+◌, ◌-◌, ◌*◌, ◌≤◌, ◌<◌}
use native.Mathlib.Decide.{ℕ_discrete, dec_lt}
use native.Mathlib.Omega.{arith}
use lib.ListN.{length, get_or, set, take, drop, replicate, length-set, length-append, get_or-append}
use lib.Seq.{get_or-set_same, get_or-set_other, get_or-append_seam, get_or-take, length-take-le}
use lib.IntN.{ℤ, pos}
use lib.Dec.{eqb}
use borrow.Author.Tests.{eqb-true, eqb-false}
use Rattle.meaning.specs.Book.{Book, Instance}
use Rattle.meaning.specs.State.{Control}
use Rattle.lists.specs.Trace.{size}
use Rattle.lists.specs.Convert.{as_derivation}
use Rattle.lists.specs.Places.{clause_here, step_here, start, start_first, start-next, numbers-here}
use Rattle.lists.specs.Back.{relation_of, trace_start, coming, coming-none, coming-first}
use Rattle.lists.proofs.Back.{coming-all, coming-wrote, coming-other, coming-length}
use Rattle.std.specs.Prelude as code
use Rattle.std.specs.Option.{option_eq}
use Rattle.table.specs.declared.Row.{Row}
use Rattle.book.specs.declared.Header.{Header}
use Rattle.book.specs.Meaning.{book_in}
use Rattle.steps.specs.Put.{Put, put-length, put-from}
use Rattle.steps.specs.Walk.{Here}
use Rattle.steps.proofs.Places.{start-add, start-far, start-long, here-at}
use Rattle.back.specs.declared.Wanted.{Wanted}
use Rattle.back.specs.Walk.{Trace, body_relation, body_count, Filled, Kept, Marked}
use Rattle.back.specs.Gone.{told, Wrote, Due, Stepped, Left, whole, Gone}
use Rattle.back.proofs.Places.{Cells, trace-start}

-- ---- whether this relation is wanted

pub wanted-yes : (o : code.Option ℕ) (n : ℕ) → option_eq eqb o (code.Some n) ≡ true → o ≡ code.Some n
wanted-yes code.None n e = absurd (let z : ⊥ = cc in z)
wanted-yes (code.Some r) n e = ap code.Some (eqb-true r n e)

pub wanted-no : (o : code.Option ℕ) (n : ℕ) → option_eq eqb o (code.Some n) ≡ false → o ≢ code.Some n
wanted-no code.None n e m = let z : ⊥ = cc in z
wanted-no (code.Some r) n e m = eqb-false r n e (let z : r ≡ n = cc in z)

wanted : (o : code.Option ℕ) (n : ℕ) → Dec (o ≡ code.Some n)
wanted o n = go (option_eq eqb o (code.Some n)) refl
  where
    go : (t : Bool) → option_eq eqb o (code.Some n) ≡ t → Dec (o ≡ code.Some n)
    go true e = yes (wanted-yes o n e)
    go false e = no (wanted-no o n e)

-- ---- a trace whose steps are instances

module _ (b : Book) (C : Control) (l : List ℤ) (every : (j : ℕ) → trace_start b C l j < length l → Instance b (step_here b l (trace_start b C l j))) where
  -- a step's numbers
  part_of : (j : ℕ) → trace_start b C l j < length l → let i = trace_start b C l j in
      pos (step_here b l i).clause ∷ (step_here b l i).vals ≡ take ((clause_here b l i).vars + 1) (drop i l)
  part_of j q = numbers-here b l (trace_start b C l j) q (every j q)

  part_length : (j : ℕ) → trace_start b C l j < length l → let i = trace_start b C l j in
      length (take ((clause_here b l i).vars + 1) (drop i l)) ≡ (clause_here b l i).vars + 1
  part_length j q = rw (← (part_of j q)) (omega (arith, (every j q).count))

  -- it wrote what is wanted
  wrote-part : (j : ℕ) → trace_start b C l j < length l → (r : ℕ) → (clause_here b l (trace_start b C l j)).head.rel ≡ r →
      let i = trace_start b C l j in
      coming b C l (some r) (j + 1) ≡ coming b C l (relation_of (clause_here b l i).body) j ++ take ((clause_here b l i).vars + 1) (drop i l)
  wrote-part j q r e = rw (← (part_of j q)) (coming-wrote b C l j q r e)

  pub wrote-length : (j : ℕ) → trace_start b C l j < length l → (r : ℕ) → (clause_here b l (trace_start b C l j)).head.rel ≡ r →
      let i = trace_start b C l j in
      length (coming b C l (some r) (j + 1)) ≡ length (coming b C l (relation_of (clause_here b l i).body) j) + (1 + (clause_here b l i).vars)
  wrote-length j q r e = rw (wrote-part j q r e, length-append) (omega (arith, part_length j q))

  -- it did not
  pub other-same : (j : ℕ) → trace_start b C l j < length l → (o : code.Option ℕ) → o ≢ code.Some (clause_here b l (trace_start b C l j)).head.rel
      → coming b C l (told o) (j + 1) ≡ coming b C l (told o) j
  other-same j q code.None e = coming-none b C l (j + 1) ∙ sym (coming-none b C l j)
  other-same j q (code.Some n) e = coming-other b C l j q n (λ m. e (ap code.Some (sym m)))

  -- from the end on, nothing more is coming
  pub coming-end : (o : code.Option ℕ) (j k : ℕ) → length l ≤ trace_start b C l j → length l ≤ trace_start b C l k → coming b C l (told o) j ≡ coming b C l (told o) k
  coming-end code.None j k p q = coming-none b C l j ∙ sym (coming-none b C l k)
  coming-end (code.Some n) j k p q = coming-all b C l n j p ∙ sym (coming-all b C l n k q)

  -- ---- the walk back

  module _ (j : ℕ) (inside : trace_start b C l j < length l) (w : Wanted) (d : List ℤ) (left : Left b C l (j + 1) w d) where
    abbrev wrote : ℕ
    wrote = (clause_here b l (trace_start b C l j)).head.rel

    pub due-of : Due b l (trace_start b C l j) w d
    due-of = record {
      fits = left.fits;
      some = λ e. omega (arith, rw e at left.at, wrote-length j inside wrote refl);
    }

    pub gone-step : {r : Wanted} {e : List ℤ} → Stepped b l (trace_start b C l j) w d r e → Gone b C l (j + 1) w d j r e
    unfolding whole
    gone-step {r} {e} y = go (wanted w.relation wrote)
      where
        go : Dec (w.relation ≡ code.Some wrote) → Gone b C l (j + 1) w d j r e
        go (yes q) =
            let (body, p) = y.wrote q in
            let n : w.at ≡ length (coming b C l (some wrote) (j + 1)) = rw q at left.at in
            record {
              left = record {
                at = rw body (omega (arith, n, wrote-length j inside wrote refl, p.from, part_length j inside));
                fits = omega (arith, left.fits, p.long, p.from);
              };
              same = rw (q, body, wrote-part j inside wrote refl, p.room, append_assoc);
              long = p.long;
            }
        go (no q) =
            let (same, kept) = y.other q in
            let n = other-same j inside w.relation q in
            rw (same, kept) (record { left = record { at = rw (← n) left.at; fits = left.fits }; same = rw (← n); long = refl })

  -- where the steps end before the block does
  pub gone-start : (j n : ℕ) (w : Wanted) (d : List ℤ) → n ≤ 512 → (n < 512 → length l ≤ trace_start b C l (j + n)) → trace_start b C l (j + n) ≤ trace_start b C l (j + 512)
      → Left b C l (j + 512) w d → Gone b C l (j + 512) w d (j + n) w d
  unfolding whole
  gone-start j n w d few full up left = go (dec_lt n 512)
    where
      same : coming b C l (told w.relation) (j + n) ≡ coming b C l (told w.relation) (j + 512) → Gone b C l (j + 512) w d (j + n) w d
      same e = record { left = record { at = rw e left.at; fits = left.fits }; same = rw e; long = refl }

      go : Dec (n < 512) → Gone b C l (j + 512) w d (j + n) w d
      go (yes h) = same (coming-end w.relation (j + n) (j + 512) (full h) (omega (arith, full h)))
      go (no h) = let z : n ≡ 512 = omega arith in same (ap (λ (k : ℕ). coming b C l (told w.relation) (j + k)) z)

module _ {b : Book} {C : Control} {l : List ℤ} {i : ℕ} {v : Wanted} {c : List ℤ} {j : ℕ} {w : Wanted} {d : List ℤ} (p : Gone b C l i v c j w d) where
  pub gone-join : {k : ℕ} {r : Wanted} {e : List ℤ} → Gone b C l j w d k r e → Gone b C l i v c k r e
  gone-join q = record { left = q.left; same = q.same ∙ p.same; long = q.long ∙ p.long }

  -- at a number of the same size
  pub gone_at : {k : ℕ} → j ≡ k → Gone b C l i v c k w d
  gone_at e = rw e at p

  -- all is written
  pub gone-end : j ≡ 0 → d ≡ whole b C l i v c
  unfolding whole
  gone-end z =
      let none = coming-first b C l (told w.relation) in
      let q = gone_at z in
      let y : w.at ≡ 0 = q.left.at ∙ ap length none in
      (let x = q.same in rw (none, y) at x)

pub left_at : {b : Book} {C : Control} {l : List ℤ} {j k : ℕ} {w : Wanted} {d : List ℤ} → Left b C l j w d → j ≡ k → Left b C l k w d
left_at left e = rw e at left

pub gone-here : {b : Book} {C : Control} {l : List ℤ} {j : ℕ} {w : Wanted} {d : List ℤ} → Left b C l j w d → Gone b C l j w d j w d
gone-here left = record { left = left; same = refl; long = refl }

-- ---- measuring

-- the first n steps are counted, and step n starts at place i
pub record Counted (b : Book) (C : Control) (l : List ℤ) (counts : List ℕ) (i n : ℕ) : Type 0 where
  pub at : i ≡ trace_start b C l n
  pub long : length counts ≡ 16
  pub is : (q : ℕ) → q < 16 → get_or counts q 0 ≡ length (coming b C l (some q) n)

zeros : (n q : ℕ) → ◌≡◌ {A = ℕ} (get_or (replicate n 0) q 0) 0
zeros zero q = refl
zeros (suc n) zero = refl
zeros (suc n) (suc q) = zeros n q

pub counted-first : (b : Book) (C : Control) (l : List ℤ) (z : ℕ) → z ≡ size b C → Counted b C l (replicate 16 0) z 0
counted-first b C l z e = record {
  at = e ∙ sym (start_first b (size b C) l (size b C));
  long = refl;
  is = λ q h. zeros 16 q ∙ sym (ap length (coming-first b C l (some q)));
}

body-counted : {b : Book} {C : Control} {l : List ℤ} {counts : List ℕ} {i j : ℕ} (w : Counted b C l counts i j) (o : code.Option ℕ) → ((r : ℕ) → o ≡ code.Some r → r < 16)
    → body_count counts o ≡ length (coming b C l (told o) j)
body-counted {b} {C} {l} {counts} {i} {j} w code.None small = sym (ap length (coming-none b C l j))
body-counted w (code.Some r) small = w.is r (small r refl)

module _ {s : List ℕ} {h : Header} {C : Control} {l : List ℤ} {z : ℕ} (t : Trace s h C l z) where
  every_of : (j : ℕ) → trace_start (book_in s h) C l j < length l → Instance (book_in s h) (step_here (book_in s h) l (trace_start (book_in s h) C l j))
  every_of j q = rw (trace-start t j) at (t.walk.steps j (rw (trace-start t j) q)).0

  here_of : (i j : ℕ) → i ≡ trace_start (book_in s h) C l j → i < length l → Here s h l z i
  here_of i j e q = here-at s h l z t.walk j i (e ∙ sym (trace-start t j)) q

  module _ {counts : List ℕ} {i n : ℕ} (w : Counted (book_in s h) C l counts i n) where
    pub counted-here : i < length l → Here s h l z i
    counted-here = here_of i n w.at

    module _ (q : i < length l) {r : Row} (c : Cells (book_in s h) l i r) where
      abbrev v : ℕ
      v = r.variables

      abbrev head : ℕ
      head = r.head.relation

      abbrev body : code.Option ℕ
      body = body_relation r

      inside : trace_start (book_in s h) C l n < length l
      inside = rw w.at at q

      there : Cells (book_in s h) l (trace_start (book_in s h) C l n) r
      there = rw w.at at c

      -- the numbers of its body's derivation, as the code has them
      module _ {o : code.Option ℕ} {x : ℕ} (y : o ≡ body) (e : x ≡ body_count counts o) where
        own : x ≡ length (coming (book_in s h) C l (relation_of (clause_here (book_in s h) l (trace_start (book_in s h) C l n)).body) n)
        own = rw there.body_is at (e ∙ ap (body_count counts) y ∙ body-counted w body c.body-small)

        pub counted-small : x ≤ i
        counted-small = omega (arith, own, coming-length (book_in s h) C l n (relation_of (clause_here (book_in s h) l (trace_start (book_in s h) C l n)).body), w.at)

        pub counted-more : Counted (book_in s h) C l (set counts head (x + (1 + v))) (i + (1 + v + z)) (n + 1)
        counted-more = record {
          at = omega (arith, start-next (book_in s h) (size (book_in s h) C) l (size (book_in s h) C) n, w.at, t.size, there.vars);
          long = length-set counts head (x + (1 + v)) ∙ w.long;
          is = λ q k. go q k (ℕ_discrete q head);
        }
          where
            go : (q : ℕ) → q < 16 → Dec (q ≡ head) → get_or (set counts head (x + (1 + v))) q 0 ≡ length (coming (book_in s h) C l (some q) (n + 1))
            go q k (yes m) =
                let long : head < length counts = omega (arith, c.head_small, w.long) in
                let all = wrote-length (book_in s h) C l every_of n inside head there.head-is in
                rw m (get_or-set_same counts head (x + (1 + v)) 0 long ∙ omega (arith, own, all, there.vars))
            go q k (no m) =
                get_or-set_other counts head q (x + (1 + v)) 0 m ∙ w.is q k
                ∙ sym (ap length (coming-other (book_in s h) C l n inside q (λ e₁. m (sym e₁ ∙ there.head-is))))

    pub counted-all : length l ≤ i → (r : ℕ) → r < 16 → get_or counts r 0 ≡ length (as_derivation (book_in s h) C r l)
    counted-all q r k = w.is r k ∙ ap length (coming-all (book_in s h) C l r n (rw w.at at q))

-- ---- one step back

pub wrote-put : (d e p : List ℤ) (at n : ℕ) → n ≤ at → length p ≡ n → Put d e (at - n) p → Wrote p at d (at - n) e
wrote-put d e p at n h k w =
    let z : at - n + length p ≡ at = omega arith in
    record { from = z; long = put-length w; room = put-from w ∙ ap (λ (m : ℕ). p ++ drop m d) z }

module _ {b : Book} {l : List ℤ} {i : ℕ} {r : Row} (c : Cells b l i r) (w : Wanted) (d : List ℤ) where
  same-head : code.Some (clause_here b l i).head.rel ≡ code.Some r.head.relation
  same-head = ap code.Some c.head-is

  pub stepped-wrote : (at : ℕ) (e : List ℤ) {o : code.Option ℕ} → w.relation ≡ code.Some r.head.relation → o ≡ body_relation r
      → Wrote (take (1 + r.variables) (drop i l)) w.at d at e → Stepped b l i w d (record { relation = o; at = at }) e
  stepped-wrote at e q y p =
      let z : 1 + r.variables ≡ (clause_here b l i).vars + 1 = omega (arith, c.vars) in
      record { wrote = λ _. (ap told y ∙ c.body_is, rw z at p); other = λ m. absurd (m (q ∙ sym same-head)) }

  pub stepped-other : w.relation ≢ code.Some r.head.relation → Stepped b l i w d w d
  stepped-other q = record { wrote = λ m. absurd (q (m ∙ same-head)); other = λ _. (refl, refl) }

-- what writing its numbers asks
pub step_fits : {s : List ℕ} {h : Header} {l : List ℤ} {i z : ℕ} {r : Row} (c : Cells (book_in s h) l i r) {w : Wanted} {d : List ℤ} → Here s h l z i → Due (book_in s h) l i w d
    → w.relation ≡ code.Some r.head.relation → (1 + r.variables ≤ w.at) × (w.at ≤ length d) × (i + (1 + r.variables) ≤ length l)
step_fits c here due q = (omega (arith, c.vars, due.some (q ∙ ap code.Some (sym c.head-is))), due.fits, omega (arith, c.vars, here.whole))

-- ---- a block's starts

pub fill_more : (b : Book) (z : ℕ) (l : List ℤ) (from : ℕ) (block : List ℕ) (n i : ℕ) → n < length block → i ≡ start b z l from n → i < length l
    → ((k : ℕ) → k < n → (get_or block k 0 ≡ start b z l from k) × (start b z l from k < length l))
    → (k : ℕ) → k < n + 1 → (get_or (set block n i) k 0 ≡ start b z l from k) × (start b z l from k < length l)
fill_more b z l from block n i h e q each k m = go (ℕ_discrete k n)
  where
    go : Dec (k ≡ n) → (get_or (set block n i) k 0 ≡ start b z l from k) × (start b z l from k < length l)
    go (yes y) = rw y (get_or-set_same block n i 0 h ∙ e, rw e at q)
    go (no y) = let (p, s) = each k (omega arith) in (get_or-set_other block n k i 0 y ∙ p, s)

-- ---- the start of every 512th step

pub kept_here : (marks : List ℕ) (k i m : ℕ) → length marks ≡ 1024 → m * 512 ≡ k → m < 1024 → Kept marks k i (set marks m i)
kept_here marks k i m long e small = record {
  long = length-set marks m i ∙ long;
  own = λ q y. let x : q ≡ m = omega arith in rw x (get_or-set_same marks m i 0 (omega arith));
  rest = λ q y. get_or-set_other marks m q i 0 (λ x. y (rw x e));
}

pub kept-not : (marks : List ℕ) (k i : ℕ) → length marks ≡ 1024 → ((q : ℕ) → q * 512 ≢ k) → Kept marks k i marks
kept-not marks k i long n = record { long = long; own = λ q y. absurd (n q y); rest = λ _ _. refl }

-- of the first k steps
pub record Marking (b : Book) (z : ℕ) (l : List ℤ) (before marks : List ℕ) (k : ℕ) : Type 0 where
  pub long : length marks ≡ 1024
  pub few : k ≤ 500000
  pub each : (q : ℕ) → q * 512 < k → (get_or marks q 0 ≡ start b z l z (q * 512)) × (start b z l z (q * 512) < length l)
  pub rest : (q : ℕ) → k ≤ q * 512 → get_or marks q 0 ≡ get_or before q 0

pub marking-first : (b : Book) (z : ℕ) (l : List ℤ) (marks : List ℕ) → length marks ≡ 1024 → Marking b z l marks marks 0
marking-first b z l marks h = record { long = h; few = omega arith; each = λ q k. absurd (let w : ⊥ = omega arith in w); rest = λ _ _. refl }

module _ {s : List ℕ} {h : Header} {C : Control} {l : List ℤ} {z : ℕ} (t : Trace s h C l z) {counts : List ℕ} {i k : ℕ} (c : Counted (book_in s h) C l counts i k)
    {before marks : List ℕ} (w : Marking (book_in s h) z l before marks k) where
  at : i ≡ start (book_in s h) z l z k
  at = c.at ∙ sym (trace-start t k)

  pub marking-more : {e : List ℕ} → i < length l → Kept marks k i e → Marking (book_in s h) z l before e (k + 1)
  marking-more {e} q y = record {
    long = y.long;
    few = omega (arith, at, start-long (book_in s h) z l z t.some k, t.few);
    each = λ m x. each m x (ℕ_discrete (m * 512) k);
    rest = λ m x. y.rest m (λ v. let u : ⊥ = omega arith in u) ∙ w.rest m (omega arith);
  }
    where
      each : (m : ℕ) → m * 512 < k + 1 → Dec (m * 512 ≡ k) → (get_or e m 0 ≡ start (book_in s h) z l z (m * 512)) × (start (book_in s h) z l z (m * 512) < length l)
      each m x (yes v) = (y.own m v ∙ rw v at, rw (v, ← at) q)
      each m x (no v) = let (p, r) = w.each m (omega arith) in (y.rest m v ∙ p, r)

  pub marked_all : {m : ℕ} → length l ≤ i → k ≤ m * 512 → m * 512 < k + 512 → Marked (book_in s h) z l marks m
  marked_all {m} q low high = record {
    long = w.long;
    few = omega (arith, w.few);
    each = λ x y. w.each x (omega arith);
    all = omega (arith, at, start-far (book_in s h) z l z t.some k (m * 512 - k), ap (start (book_in s h) z l z) same);
  }
    where
      same : k + (m * 512 - k) ≡ m * 512
      same = omega arith

-- ---- a block

-- the places of steps that follow each other, the first of them step j
pub record Placed (b : Book) (C : Control) (l : List ℤ) (j : ℕ) (xs : List ℕ) : Type 0 where
  pub each : (k : ℕ) → k < length xs → (get_or xs k 0 ≡ trace_start b C l (j + k)) × (get_or xs k 0 < length l)

module _ {s : List ℕ} {h : Header} {C : Control} {l : List ℤ} {z : ℕ} (t : Trace s h C l z) where
  module _ (m i : ℕ) (block : List ℕ) (r : ℕ) (e : i ≡ start (book_in s h) z l z (m * 512)) (f : Filled (book_in s h) z l i block r) where
    place : (k : ℕ) → start (book_in s h) z l i k ≡ trace_start (book_in s h) C l (m * 512 + k)
    place k = ap (λ (x : ℕ). start (book_in s h) z l x k) e ∙ sym (start-add (book_in s h) z l z (m * 512) k) ∙ trace-start t (m * 512 + k)

    -- the k-th of a block's starts
    block-place : (k : ℕ) → k < r → (get_or block k 0 ≡ trace_start (book_in s h) C l (m * 512 + k)) × (get_or block k 0 < length l)
    block-place k q = let (p, y) = f.each k q in (p ∙ place k, rw p y)

    block-long : length (take r block) ≡ r
    block-long = length-take-le r block (omega (arith, f.few, f.long))

    pub block-placed : Placed (book_in s h) C l (m * 512) (take r block)
    block-placed = record { each = λ k q. let y : k < r = omega (arith, block-long) in rw (get_or-take r block k 0 y) (block-place k y) }

    -- the walk back over the block begins
    pub block_start : (w : Wanted) (d : List ℤ) → Left (book_in s h) C l (m * 512 + 512) w d → Gone (book_in s h) C l (m * 512 + 512) w d (m * 512 + length (take r block)) w d
    block_start w d left = rw block-long (gone-start (book_in s h) C l (every_of t) (m * 512) r w d f.few full up left)
      where
        full : r < 512 → length l ≤ trace_start (book_in s h) C l (m * 512 + r)
        full k = omega (arith, f.full k, place r)

        same : r + (512 - r) ≡ 512
        same = omega (arith, f.few)

        up : trace_start (book_in s h) C l (m * 512 + r) ≤ trace_start (book_in s h) C l (m * 512 + 512)
        up = omega (arith, start-far (book_in s h) z l i t.some r (512 - r), ap (start (book_in s h) z l i) same, place r, place 512)

  -- the last of the steps that are left
  module _ (m : ℕ) (xs ys : List ℕ) (x : ℕ) (p : Placed (book_in s h) C l m xs) (e : xs ≡ ys ++ (x ∷ [])) where
    more : length xs ≡ length ys + 1
    more = rw (e, length-append) refl

    last : get_or xs (length ys) 0 ≡ x
    last = rw e (get_or-append_seam ys x [] 0)

    at-step : (x ≡ trace_start (book_in s h) C l (m + length ys)) × (x < length l)
    at-step = rw last at (p.each (length ys) (omega (arith, more)))

    before-end : trace_start (book_in s h) C l (m + length ys) < length l
    before-end = rw at-step.0 at at-step.1

    next : m + length xs ≡ m + length ys + 1
    next = omega (arith, more)

    pub placed-rest : Placed (book_in s h) C l m ys
    placed-rest = record { each = λ k q. rw (e, get_or-append ys (x ∷ []) 0 k q) at (p.each k (omega (arith, more))) }

    pub placed-here : Here s h l z x
    placed-here = here_of t x (m + length ys) at-step.0 at-step.1

    module _ {w : Wanted} {d : List ℤ} where
      pub placed-due : Left (book_in s h) C l (m + length xs) w d → Due (book_in s h) l x w d
      placed-due left = rw at-step.0 (due-of (book_in s h) C l (every_of t) (m + length ys) before-end w d (left_at left next))

      pub placed-more : {n : ℕ} {v : Wanted} {c : List ℤ} {u : Wanted} {f : List ℤ} → Gone (book_in s h) C l n v c (m + length xs) w d
          → Stepped (book_in s h) l x w d u f → Gone (book_in s h) C l n v c (m + length ys) u f
      placed-more g y = gone-join (gone_at g next) (gone-step (book_in s h) C l (every_of t) (m + length ys) before-end w d (left_at g.left next) (rw at-step.0 at y))

  module _ (marks : List ℕ) (m r n : ℕ) (d : List ℤ) (w : Marked (book_in s h) z l marks m) where
    all-coming : coming (book_in s h) C l (some r) (m * 512) ≡ as_derivation (book_in s h) C r l
    all-coming = coming-all (book_in s h) C l r (m * 512) (rw (trace-start t (m * 512)) at w.all)

    -- the walk back over all begins
    pub left-first : n ≡ length (as_derivation (book_in s h) C r l) → n ≤ length d → Left (book_in s h) C l (m * 512) (record { relation = code.Some r; at = n }) d
    left-first e k = record { at = rw all-coming e; fits = k }

    -- and ends
    pub all-written : {j : ℕ} {v : Wanted} {e : List ℤ} → Gone (book_in s h) C l (m * 512) (record { relation = code.Some r; at = n }) d j v e → j ≡ 0 → e ≡ as_derivation (book_in s h) C r l ++ drop n d
    unfolding whole
    all-written g z = gone-end g z ∙ ap (λ (x : List ℤ). x ++ drop n d) all-coming
