-- Laws of the walk over all assignments: it has just them, each at its position, and what is found on it.
use Rattle.std.specs.Prelude.{◌≡◌, true, false, ◌↔◌, get_or, ℤ}
use Rattle.std.proofs.Math.Path.{refl, ap}
use Rattle.std.proofs.Common.{sym}
use mathlib.Core.List.{List, [], ◌∷◌, ◌++◌, map, append_assoc}
use Prim.Native.Nat.{ℕ, zero, suc, ◌+◌, ◌<◌}
use native.Mathlib.Omega.{arith}
use Rattle.std.proofs.Math.ListN.{length, length-append, length-map}
use Rattle.std.proofs.Math.Seq.{take-length, take_at}
use Rattle.std.proofs.lemmas.List.{get_or_at}
use Rattle.meaning.specs.Constraint.{Constraint}
use Rattle.meaning.specs.Book.{Book, Clause, Step, Window, Within, variable_window, none_such}
use Rattle.meaning.specs.Limits.{Each}
use Rattle.cursor.specs.Steps.{pick}
use Rattle.cursor.specs.Inverse.{pick-by, pick-else}
use Rattle.models.specs.Assignments.{assignments}
use Rattle.models.specs.Order.{map-append, Numbered, numbered-append, numbered-at, numbered-map, within-lie, lie-within, assignments-count, assignments-split, assignments-placed, prior, after, Placed}
use Rattle.models.specs.Walk.{Assignment, step, tries, tries_from, walk, sum, total, position, breaks, clean, broken, find, find_then}

-- x stands in a list, with these before and after it
pub record Among {A : Type 0} (x : A) (l : List A) : Type 0 where
  pub before : List A
  pub behind : List A
  pub is : l ≡ before ++ (x ∷ behind)

among-left : {A : Type 0} {x : A} {l : List A} (k : List A) → Among x l → Among x (l ++ k)
among-left k a = record { before = a.before; behind = a.behind ++ k; is = rw a.is (append_assoc a.before (_ ∷ a.behind) k) }

among-right : {A : Type 0} {x : A} {l : List A} (k : List A) → Among x l → Among x (k ++ l)
among-right k a = record { before = k ++ a.before; behind = a.behind; is = rw a.is (sym (append_assoc k a.before (_ ∷ a.behind))) }

among-map : {A B : Type 0} (f : A → B) {x : A} {l : List A} → Among x l → Among (f x) (map f l)
among-map f {x} a = record { before = map f a.before; behind = map f a.behind; is = rw a.is (map-append f a.before (x ∷ a.behind)) }

-- values in their windows are one of the assignments
pub assigned : (w : ℕ → Window) (n : ℕ) (vs : List ℤ) → length vs ≡ n → Within w vs → Among vs (assignments w n)
assigned w n vs e h =
    let s = assignments-split w (length vs) vs (omega arith) (within-lie w vs h) in
    record { before = prior w n vs; behind = after w n vs; is = rw (← e) (rw (take-length vs) at s) }

not-clean : {n k : ℕ} {s : Step} → broken n s ≡ clean k → ⊥
not-clean e = let z : ◌≡◌ {A = ℕ} 0 1 = cc in omega arith

-- ---- how many

module _ (b : Book) where
  from-length : (k : ℕ) (cs : List Clause) → length (tries_from b k cs) ≡ sum b cs
  unfolding tries_from sum
  from-length k [] = refl
  from-length k (c ∷ cs) =
      rw (
        length-append (tries b k c) (tries_from b (suc k) cs),
        length-map (assignments (variable_window b c) c.vars) (step k),
        assignments-count (variable_window b c) c.vars,
        from-length (suc k) cs,
      )

  -- the walk is as long as the total says
  pub walk-total : length (walk b) ≡ total b
  unfolding walk total
  walk-total = from-length 0 b.clauses

  pub sum-append : (cs ds : List Clause) → sum b (cs ++ ds) ≡ sum b cs + sum b ds
  unfolding sum
  sum-append [] ds = omega arith
  sum-append (c ∷ cs) ds = omega (arith, sum-append cs ds)

  -- ---- every assignment is tried

  tried-from : (k : ℕ) (cs : List Clause) (i : ℕ) (vs : List ℤ) → i < length cs → length vs ≡ (get_or cs i none_such).vars →
      Within (variable_window b (get_or cs i none_such)) vs → Among (step (k + i) vs) (tries_from b k cs)
  unfolding tries_from
  tried-from k [] i vs l e h = absurd (let z : ⊥ = omega arith in z)
  tried-from k (c ∷ cs) zero vs l e h =
      let z : k + 0 ≡ k = omega arith in
      rw z (among-left (tries_from b (suc k) cs) (among-map (step k) (assigned (variable_window b c) c.vars vs e h)))
  tried-from k (c ∷ cs) (suc i) vs l e h =
      let z : k + suc i ≡ suc k + i = omega arith in
      rw z (among-right (tries b k c) (tried-from (suc k) cs i vs (omega arith) e h))

  pub tried : (s : Step) → Assignment b s → Among s (walk b)
  unfolding walk
  tried s a =
      let z : 0 + s.clause ≡ s.clause = omega arith in
      rw z at (tried-from 0 b.clauses s.clause s.vals a.there a.count a.within)

  -- ---- what is tried is an assignment, and stands at its position

  -- i come before s
  pub record Stands (i : ℕ) (s : Step) : Type 0 where
    pub one : Assignment b s
    pub at : position b s ≡ i + 1

  module _ (pre : List Clause) (c : Clause) (cs : List Clause) (e : b.clauses ≡ pre ++ (c ∷ cs)) where
    here : get_or b.clauses (length pre) none_such ≡ c
    here = rw e (get_or_at pre c cs none_such (length pre) refl)

    stands_one : (r : ℕ) (vs : List ℤ) → Placed (variable_window b c) c.vars r vs → Stands (sum b pre + r) (step (length pre) vs)
    unfolding position
    stands_one r vs p = record {
      one = record {
        there = rw e (omega (arith, length-append pre (c ∷ cs)));
        count = rw here p.size;
        within = rw here (lie-within (variable_window b c) vs (rw p.size p.lie));
      };
      at = rw (here, p.ranked, e, take_at pre (c ∷ cs) (length pre) refl);
    }

  stand-from : (pre cs : List Clause) → b.clauses ≡ pre ++ cs → Numbered Stands (sum b pre) (tries_from b (length pre) cs)
  unfolding tries_from sum
  stand-from pre [] e = tt
  stand-from pre (c ∷ cs) e =
      let w = variable_window b c in
      let n : sum b pre + 0 ≡ sum b pre = omega arith in
      let k : length (pre ++ (c ∷ [])) ≡ suc (length pre) = omega (arith, length-append pre (c ∷ [])) in
      let a : b.clauses ≡ (pre ++ (c ∷ [])) ++ cs = rw (append_assoc pre (c ∷ []) cs) e in
      numbered-append Stands (sum b pre) (sum b (pre ++ (c ∷ []))) (tries b (length pre) c) (tries_from b (suc (length pre)) cs)
      (omega (arith, sum-append pre (c ∷ []), length-map (assignments w c.vars) (step (length pre)), assignments-count w c.vars))
      (rw n at (numbered-map (Placed w c.vars) Stands (step (length pre)) (sum b pre) (stands_one pre c cs e) 0 (assignments w c.vars) (assignments-placed w c.vars)))
      (rw k at (stand-from (pre ++ (c ∷ [])) cs a))

  -- as many come before s in the walk as its position says, less one
  pub position-walk : (s : Step) (a : Among s (walk b)) → Stands (length a.before) s
  unfolding walk sum
  position-walk s a = numbered-at Stands 0 (length a.before) a.before s a.behind (omega arith) (rw a.is at (stand-from [] b.clauses refl))

  -- ---- what is found

  module _ (m : List Constraint) where
    abbrev pub Whole : Step → Type 0
    Whole s = breaks b m s ≡ false

    -- none of some steps is broken, and all are counted
    pub find-clean : (n : ℕ) (ss : List Step) (k : ℕ) → find b m n ss ≡ clean k → (k ≡ n + length ss) × Each Whole ss
    unfolding find
    find-clean n [] k e = (let z : n ≡ k = cc in omega arith, tt)
    find-clean n (s ∷ ss) k e =
        pick-else (breaks b m s) _ _ not-clean e λ t q. let r = find-clean (n + 1) ss k q in (omega (arith, r.0), (t, r.1))

    pub clean-find : (n : ℕ) (ss : List Step) → Each Whole ss → find b m n ss ≡ clean (n + length ss)
    unfolding find pick
    clean-find n [] h = ap clean (omega arith)
    clean-find n (s ∷ ss) h =
        let z : n + 1 + length ss ≡ n + suc (length ss) = omega arith in
        rw (h.0, clean-find (n + 1) ss h.1, z)

    -- s is broken, none before it is, and those before it are counted with it
    pub record First (n : ℕ) (ss : List Step) (k : ℕ) (s : Step) : Type 0 where
      pub place : Among s ss
      pub counted : k ≡ n + length place.before + 1
      pub broke : breaks b m s ≡ true
      pub earlier : Each Whole place.before

    first-here : (n : ℕ) (x : Step) (ss : List Step) (k : ℕ) (s : Step) → breaks b m x ≡ true → broken (n + 1) x ≡ broken k s → First n (x ∷ ss) k s
    first-here n x ss k s t e =
        let q : x ≡ s = cc in
        let r : n + 1 ≡ k = cc in
        record { place = record { before = []; behind = ss; is = rw q }; counted = omega arith; broke = rw q at t; earlier = tt }

    first-later : (n : ℕ) (x : Step) (ss : List Step) (k : ℕ) (s : Step) → breaks b m x ≡ false → First (n + 1) ss k s → First n (x ∷ ss) k s
    first-later n x ss k s t r =
        let a = r.place in
        record {
          place = record { before = x ∷ a.before; behind = a.behind; is = rw a.is };
          counted = omega (arith, r.counted);
          broke = r.broke;
          earlier = (t, r.earlier);
        }

    pub find-broken : (n : ℕ) (ss : List Step) (k : ℕ) (s : Step) → find b m n ss ≡ broken k s → First n ss k s
    unfolding find
    find-broken n [] k s e = absurd (not-clean (sym e))
    find-broken n (x ∷ ss) k s e =
        pick-by (λ a. a ≡ broken k s → First n (x ∷ ss) k s) (breaks b m x) _ _
        (λ t q. first-here n x ss k s t q)
        (λ t q. first-later n x ss k s t (find-broken (n + 1) ss k s q))
        e

    each-behind : (s : Step) (xs ys : List Step) → Each Whole (xs ++ (s ∷ ys)) → Whole s
    each-behind s [] ys k = k.0
    each-behind s (x ∷ xs) ys k = each-behind s xs ys k.1

    pub each-among : {s : Step} {ss : List Step} → Each Whole ss → Among s ss → Whole s
    each-among {s} h a = each-behind s a.before a.behind (rw a.is at h)

    each-intro : (ss : List Step) → ((s : Step) → Among s ss → Whole s) → Each Whole ss
    each-intro [] h = tt
    each-intro (s ∷ ss) h = (
      h s (record { before = []; behind = ss; is = refl }),
      each-intro ss (λ x a. h x (record { before = s ∷ a.before; behind = a.behind; is = rw a.is })),
    )

    -- no assignment is broken exactly when none is found on the walk
    pub walk-clean : (find b m 0 (walk b) ≡ clean (total b)) ↔ ((s : Step) → Assignment b s → Whole s)
    walk-clean =
        let z : 0 + length (walk b) ≡ total b = omega (arith, walk-total) in (
          λ e s a. each-among (find-clean 0 (walk b) (total b) e).1 (tried s a),
          λ h. rw z at (clean-find 0 (walk b) (each-intro (walk b) (λ s a. h s (position-walk s a).one))),
        )

    -- of two stretches, one after the other
    pub find-append : (n : ℕ) (xs ys : List Step) → find b m n (xs ++ ys) ≡ find_then (find b m n xs) (λ k. find b m k ys)
    unfolding find find_then pick
    find-append n [] ys = refl
    find-append n (x ∷ xs) ys =
        pick-by (λ a. a ≡ find_then (pick (breaks b m x) (broken (n + 1) x) (find b m (n + 1) xs)) (λ k. find b m k ys)) (breaks b m x) _ _
        (λ t. rw t)
        (λ t. rw t (find-append (n + 1) xs ys))
