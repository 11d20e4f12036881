-- Laws of the walked state.
use Rattle.std.specs.Prelude.{◌≡◌, Bool, ◌&&◌, get_or, take, drop, set, replicate, ℤ, pos}
use Rattle.std.proofs.Math.Path.{refl, ap}
use Rattle.std.proofs.Common.{ap₂, ◌∙◌, not-suc-le-zero, le_of_suc-le-suc, arith, length-set, length-take-le, take-take}
use Rattle.std.proofs.Math.Bool.{true, false}
use mathlib.Core.List.{List, [], ◌∷◌, ◌++◌, map}
use Prim.Native.Nat.{ℕ, zero, suc, ◌+◌, ◌≤◌, ◌<◌}
use Rattle.std.proofs.Math.ListN.{length, length-append, length-drop, get_or-map}
use Rattle.std.proofs.lemmas.List.{length-map}
use Rattle.meaning.specs.Book.{Book, Fact}
use Rattle.meaning.specs.State.{Control, write, flags, bit}
use Rattle.lists.specs.Compare.{eq_vals}
use Rattle.lists.specs.Trace.{flat, sum, cut, width, size, state_numbers, has, first_of}
use Rattle.state.specs.State.{front, rows_of, placed, state_of, over, row_put, first_rows}

-- ---- the front of a list

module _ {A : Type 0} (d : A) where
  pub front_length : (n : ℕ) (l : List A) → length (front d n l) ≡ n
  unfolding front
  front_length zero l = refl
  front_length (suc n) [] = ap suc (front_length n [])
  front_length (suc n) (x ∷ l) = ap suc (front_length n l)

  pub front-take : (n : ℕ) (l : List A) → n ≤ length l → front d n l ≡ take n l
  unfolding front
  front-take zero l h = refl
  front-take (suc n) [] h = absurd (not-suc-le-zero h)
  front-take (suc n) (x ∷ l) h = ap (λ (t : List A). x ∷ t) (front-take n l (le_of_suc-le-suc h))

  pub front_at : (n : ℕ) (l : List A) (i : ℕ) → i < n → get_or (front d n l) i d ≡ get_or l i d
  unfolding front
  front_at zero l i h = absurd (not-suc-le-zero h)
  front_at (suc n) [] zero h = refl
  front_at (suc n) [] (suc i) h = front_at n [] i (le_of_suc-le-suc h)
  front_at (suc n) (x ∷ l) zero h = refl
  front_at (suc n) (x ∷ l) (suc i) h = front_at n l i (le_of_suc-le-suc h)

  -- one element replaced
  pub front-set : (n : ℕ) (l : List A) (i : ℕ) (x : A) → i < length l → front d n (set l i x) ≡ set (front d n l) i x
  unfolding front
  front-set zero l i x h = refl
  front-set (suc n) [] i x h = absurd (not-suc-le-zero h)
  front-set (suc n) (y ∷ l) zero x h = refl
  front-set (suc n) (y ∷ l) (suc i) x h = ap (λ (t : List A). y ∷ t) (front-set n l i x (le_of_suc-le-suc h))

  pub front-replicate : (n m : ℕ) → front d n (replicate m d) ≡ replicate n d
  unfolding front
  front-replicate zero m = refl
  front-replicate (suc n) zero = ap (λ (t : List A). d ∷ t) (front-replicate n zero)
  front-replicate (suc n) (suc m) = ap (λ (t : List A). d ∷ t) (front-replicate n m)

  -- values and then others: the values
  pub front-over : (xs ys : List A) → front d (length xs) (xs ++ ys) ≡ xs
  unfolding front
  front-over [] ys = refl
  front-over (x ∷ xs) ys = ap (λ (t : List A). x ∷ t) (front-over xs ys)

  -- the front of a longer front
  pub front-front : (n m : ℕ) (l : List A) → n ≤ m → front d n (front d m l) ≡ front d n l
  unfolding front
  front-front zero m l h = refl
  front-front (suc n) zero l h = absurd (not-suc-le-zero h)
  front-front (suc n) (suc m) [] h = ap (λ (t : List A). d ∷ t) (front-front n m [] (le_of_suc-le-suc h))
  front-front (suc n) (suc m) (x ∷ l) h = ap (λ (t : List A). x ∷ t) (front-front n m l (le_of_suc-le-suc h))

  -- one more than l has: it stands where d stood
  pub front-more : (m : ℕ) (l : List A) (x : A) → length l < m → set (front d m l) (length l) x ≡ front d m (l ++ (x ∷ []))
  unfolding front
  front-more zero l x h = absurd (not-suc-le-zero h)
  front-more (suc m) [] x h = refl
  front-more (suc m) (y ∷ l) x h = ap (λ (t : List A). y ∷ t) (front-more m l x (le_of_suc-le-suc h))

  pub front-next : (m : ℕ) (l : List A) (e : A) → length l < m → get_or (front d m l) (length l) e ≡ d
  unfolding front
  front-next zero l e h = absurd (not-suc-le-zero h)
  front-next (suc m) [] e h = refl
  front-next (suc m) (y ∷ l) e h = front-next m l e (le_of_suc-le-suc h)

-- ---- flags as numbers

pub bits-length : (n : ℕ) (fs : List Bool) → length (map bit (front false n fs)) ≡ n
bits-length n fs = length-map (front false n fs) bit ∙ front_length false n fs

pub bits_at : (n : ℕ) (fs : List Bool) (i : ℕ) → i < n → get_or (map bit (front false n fs)) i (pos 0) ≡ bit (get_or fs i false)
bits_at n fs i h = get_or-map bit (front false n fs) i false ∙ ap bit (front_at false n fs i h)

-- ---- rows

pub rows_at : (ns : List ℕ) (vs : List (List ℤ)) (r : ℕ) → r < length ns → get_or (rows_of ns vs) r [] ≡ front (pos 0) (get_or ns r 0) (get_or vs r [])
unfolding rows_of
rows_at [] vs r h = absurd (not-suc-le-zero h)
rows_at (n ∷ ns) [] zero h = refl
rows_at (n ∷ ns) [] (suc r) h = rows_at ns [] r (le_of_suc-le-suc h)
rows_at (n ∷ ns) (v ∷ vs) zero h = refl
rows_at (n ∷ ns) (v ∷ vs) (suc r) h = rows_at ns vs r (le_of_suc-le-suc h)

-- the rows from r on
pub rows-cons : (n : ℕ) (ns : List ℕ) (vs : List (List ℤ)) (r : ℕ) → rows_of (n ∷ ns) (drop r vs) ≡ front (pos 0) n (get_or vs r []) ∷ rows_of ns (drop (suc r) vs)
unfolding rows_of
rows-cons n ns [] zero = refl
rows-cons n ns [] (suc r) = refl
rows-cons n ns (v ∷ vs) zero = refl
rows-cons n ns (v ∷ vs) (suc r) = rows-cons n ns vs r

pub rows-set : (ns : List ℕ) (vs : List (List ℤ)) (r : ℕ) (v : List ℤ) → r < length vs → rows_of ns (set vs r v) ≡ set (rows_of ns vs) r (front (pos 0) (get_or ns r 0) v)
unfolding rows_of
rows-set [] vs r v h = refl
rows-set (n ∷ ns) [] r v h = absurd (not-suc-le-zero h)
rows-set (n ∷ ns) (u ∷ vs) zero v h = refl
rows-set (n ∷ ns) (u ∷ vs) (suc r) v h = ap (λ (t : List (List ℤ)). front (pos 0) n u ∷ t) (rows-set ns vs r v (le_of_suc-le-suc h))

pub rows-many : (ns : List ℕ) (vs : List (List ℤ)) → length (flat (rows_of ns vs)) ≡ sum ns
unfolding rows_of flat sum
rows-many [] vs = refl
rows-many (n ∷ ns) [] = length-append (front (pos 0) n []) (flat (rows_of ns [])) ∙ ap₂ ◌+◌ (front_length (pos 0) n []) (rows-many ns [])
rows-many (n ∷ ns) (v ∷ vs) = length-append (front (pos 0) n v) (flat (rows_of ns vs)) ∙ ap₂ ◌+◌ (front_length (pos 0) n v) (rows-many ns vs)

-- a fact put in
pub rows-put : (ns : List ℕ) (vs : List (List ℤ)) (f : Fact) → length f.vals ≡ get_or ns f.rel 0 → f.rel < length vs
    → rows_of ns (row_put f vs) ≡ set (rows_of ns vs) f.rel f.vals
unfolding row_put over
rows-put ns vs f e h = rows-set ns vs f.rel _ h ∙ ap (set (rows_of ns vs) f.rel) (rw (← e) (front-over (pos 0) f.vals _))

pub put-length : (f : Fact) (vs : List (List ℤ)) → length (row_put f vs) ≡ length vs
unfolding row_put
put-length f vs = length-set vs f.rel _

-- the rows of a list's places hold those places
rows-first : (ns : List ℕ) (m : ℕ) (l : List ℤ) → length ns ≤ m → ((r : ℕ) → r < length ns → get_or ns r 0 ≤ 8) → sum ns ≤ length l
    → rows_of ns (front (replicate 8 (pos 0)) m (map (front (pos 0) 8) (cut ns l))) ≡ cut ns l
unfolding rows_of front cut sum
rows-first [] m l h small k = refl
rows-first (n ∷ ns) zero l h small k = absurd (not-suc-le-zero h)
rows-first (n ∷ ns) (suc m) l h small k =
    let own : front (pos 0) n (front (pos 0) 8 (take n l)) ≡ take n l =
    front-front (pos 0) n 8 (take n l) (small 0 (omega arith)) ∙ front-take (pos 0) n (take n l) (rw (length-take-le n l (omega arith)) (omega arith)) ∙ take-take n n l (omega arith) in
    ap₂ {C = List (List ℤ)} (λ v vs. v ∷ vs) own (rows-first ns m (drop n l) (le_of_suc-le-suc h) (λ r b. small (suc r) (omega arith)) (rw length-drop (omega arith)))

-- ---- a state of any control

module _ (C : Control) where
  module _ (κ : C.Ctl) (ns : List ℕ) (vs : List (List ℤ)) where
    -- a fact is put in: its row is replaced
    pub placed-put : (f : Fact) → length f.vals ≡ get_or ns f.rel 0 → f.rel < length vs
        → placed C (C.next f.rel κ) ns (row_put f vs) ≡ write C f (placed C κ ns vs)
    placed-put f e h = λ i. record { ctl = C.next f.rel κ; rows = rows-put ns vs f e h i }

    -- how many numbers it has
    pub placed-many : (b : Book) → length (state_numbers b C (placed C κ ns vs)) ≡ length (C.code κ) + sum ns
    unfolding state_numbers
    placed-many b = length-append (C.code κ) (flat (rows_of ns vs)) ∙ ap (λ (n : ℕ). length (C.code κ) + n) (rows-many ns vs)

    -- whether it holds a fact
    pub placed-has : (b : Book) (f : Fact) → f.rel < length ns
        → has b C f (placed C κ ns vs) ≡ (C.held f.rel κ && eq_vals (front (pos 0) (get_or ns f.rel 0) (get_or vs f.rel [])) f.vals)
    unfolding has
    placed-has b f h = rw (rows_at ns vs f.rel h)

  -- the first state that a list begins with
  pub placed_first : (b : Book) (l : List ℤ) → length b.arities ≤ 16 → ((r : ℕ) → r < length b.arities → get_or b.arities r 0 ≤ 8) → size b C ≤ length l
      → placed C (C.start (length b.arities)) b.arities (first_rows b.arities (drop (width b C) l)) ≡ first_of b C l
  unfolding first_of first_rows size
  placed_first b l few small long =
      λ i. record { ctl = C.start (length b.arities); rows = rows-first b.arities 16 (drop (width b C) l) few small (rw length-drop (omega arith)) i }

-- ---- the state of flags

module _ (ns : List ℕ) (fs : List Bool) (vs : List (List ℤ)) where
  -- a fact is put in: its flag set, its row replaced
  pub state-put : (f : Fact) → length f.vals ≡ get_or ns f.rel 0 → f.rel < length fs → f.rel < length vs
      → state_of ns (set fs f.rel true) (row_put f vs) ≡ write flags f (state_of ns fs vs)
  unfolding state_of
  state-put f e h k =
      ap (λ (κ : List Bool). placed flags κ ns (row_put f vs)) (front-set false (length ns) fs f.rel true h)
      ∙ placed-put flags (front false (length ns) fs) ns vs f e k

  pub state-many : (b : Book) → length (state_numbers b flags (state_of ns fs vs)) ≡ length ns + sum ns
  unfolding state_of
  state-many b = placed-many flags _ ns vs b ∙ ap (λ (n : ℕ). n + sum ns) (bits-length (length ns) fs)

  pub state-has : (b : Book) (f : Fact) → f.rel < length ns
      → has b flags f (state_of ns fs vs) ≡ (get_or fs f.rel false && eq_vals (front (pos 0) (get_or ns f.rel 0) (get_or vs f.rel [])) f.vals)
  unfolding state_of
  state-has b f h = placed-has flags _ ns vs b f h ∙ rw (front_at false (length ns) fs f.rel h)

-- no flag is set at the start
pub state-first : (b : Book) (l : List ℤ) → length b.arities ≤ 16 → ((r : ℕ) → r < length b.arities → get_or b.arities r 0 ≤ 8) → size b flags ≤ length l
    → state_of b.arities (replicate 16 false) (first_rows b.arities (drop (length b.arities) l)) ≡ first_of b flags l
unfolding state_of
state-first b l few small long =
    ap (λ (κ : List Bool). placed flags κ b.arities (first_rows b.arities (drop (length b.arities) l))) (front-replicate false (length b.arities) 16)
    ∙ placed_first flags b l few small long
