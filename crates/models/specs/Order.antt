-- Laws of the order of assignments: how many there are, which lists they are, and how many come before each.
use Rattle.std.specs.Prelude.{◌≡◌, length, ◌+ℤ◌, ◌-ℤ◌}
use Rattle.std.proofs.Math.Path.{refl}
use Rattle.std.proofs.Common.{ap, ◌∙◌, pow-suc, ⊎_elim}
use mathlib.Core.List.{List, [], ◌∷◌, ◌++◌, map, flat_map, append_assoc}
use Prim.Native.Nat.{ℕ, zero, suc, ◌+◌, ◌*◌, ◌^◌, ◌<◌, ◌≤◌}
use native.Mathlib.Omega.{arith}
use Rattle.std.proofs.Math.Nat.{pow-zero}
use Rattle.whole.specs.Whole.{lt-or-le}
use Rattle.std.proofs.Math.ListN.{get_or, take, length-append, length-map, get_or-append}
use Rattle.std.proofs.Math.Seq.{take-suc}
use Rattle.std.proofs.lemmas.List.{get_or_at}
use Rattle.std.proofs.Math.IntN.{ℤ, pos, +ℤ_idr}
use Rattle.meaning.specs.Book.{Window, Inside, Within}
use Rattle.models.specs.Assignments.{natural, width, up_from, values, extend, assignments, count, rank}
use Rattle.models.specs.Gaps.{more, gap, seat, seat-below, seat-over, seat-values, up_from-length, value-inside}

-- ---- lists

module _ {A B : Type 0} (f : A → List B) where
  pub flat_map-append : (xs ys : List A) → flat_map f (xs ++ ys) ≡ flat_map f xs ++ flat_map f ys
  unfolding flat_map
  flat_map-append [] ys = refl
  flat_map-append (x ∷ xs) ys = rw (flat_map-append xs ys, append_assoc)

  pub flat_map-length : (k : ℕ) → ((x : A) → length (f x) ≡ k) → (xs : List A) → length (flat_map f xs) ≡ length xs * k
  unfolding flat_map
  flat_map-length k h [] = omega arith
  flat_map-length k h (x ∷ xs) = omega (arith, length-append (f x) (flat_map f xs), h x, flat_map-length k h xs)

pub map-append : {A B : Type 0} (f : A → B) (xs ys : List A) → map f (xs ++ ys) ≡ map f xs ++ map f ys
map-append f [] ys = refl
map-append f (x ∷ xs) ys = ap (λ (l : List _). f x ∷ l) (map-append f xs ys)

-- each of the list holds P with its number, the first of which is a
abbrev pub Numbered : {A : Type 0} → (ℕ → A → Type 0) → ℕ → List A → Type 0
Numbered P a [] = Unit {0}
Numbered P a (x ∷ xs) = P a x × Numbered P (a + 1) xs

module _ {A : Type 0} (P : ℕ → A → Type 0) where
  pub numbered-append : (a b : ℕ) (xs ys : List A) → b ≡ a + length xs → Numbered P a xs → Numbered P b ys → Numbered P a (xs ++ ys)
  numbered-append a b [] ys e h k = let z : b ≡ a = omega arith in rw z at k
  numbered-append a b (x ∷ xs) ys e h k = (h.0, numbered-append (a + 1) b xs ys (omega arith) h.1 k)

  pub numbered-at : (a b : ℕ) (xs : List A) (x : A) (ys : List A) → b ≡ a + length xs → Numbered P a (xs ++ (x ∷ ys)) → P b x
  numbered-at a b [] x ys e h = let z : b ≡ a = omega arith in rw z h.0
  numbered-at a b (y ∷ xs) x ys e h = numbered-at (a + 1) b xs x ys (omega arith) h.1

pub numbered-map : {A B : Type 0} (P : ℕ → A → Type 0) (Q : ℕ → B → Type 0) (f : A → B) (n : ℕ) → ((a : ℕ) (x : A) → P a x → Q (n + a) (f x)) →
    (a : ℕ) (xs : List A) → Numbered P a xs → Numbered Q (n + a) (map f xs)
numbered-map P Q f n h a [] k = tt
numbered-map P Q f n h a (x ∷ xs) k =
    let e : n + (a + 1) ≡ n + a + 1 = omega arith in
    (h a x k.0, rw e at (numbered-map P Q f n h (a + 1) xs k.1))

-- ---- values in their windows

-- the first n values of a list lie in their windows
abbrev pub Lie : (ℕ → Window) → ℕ → List ℤ → Type 0
Lie w n vs = (i : ℕ) → i < n → Inside (w i) (get_or vs i (pos 0))

pub within-lie : (w : ℕ → Window) (vs : List ℤ) → Within w vs → Lie w (length vs) vs
within-lie w [] h i l = absurd (let z : ⊥ = omega arith in z)
within-lie w (v ∷ vs) h zero l = h.0
within-lie w (v ∷ vs) h (suc i) l = within-lie (λ j. w (suc j)) vs h.1 i (omega arith)

pub lie-within : (w : ℕ → Window) (vs : List ℤ) → Lie w (length vs) vs → Within w vs
lie-within w [] h = tt
lie-within w (v ∷ vs) h = (h 0 (omega arith), lie-within (λ j. w (suc j)) vs (λ i l. h (suc i) (omega arith)))

-- ---- all of them

module _ (w : ℕ → Window) where
  -- each value of variable n after vs
  abbrev pub grow : ℕ → List ℤ → List (List ℤ)
  grow n vs = extend vs (values (w n))

  grow-length : (n : ℕ) (vs : List ℤ) → length (grow n vs) ≡ width (w n)
  grow-length n vs = length-map (values (w n)) (λ z. vs ++ (z ∷ [])) ∙ up_from-length (width (w n)) (w n).lo

  -- there are as many as the product of the widths says
  pub assignments-count : (n : ℕ) → length (assignments w n) ≡ count w n
  unfolding assignments count
  assignments-count zero = refl
  assignments-count (suc n) = rw (flat_map-length (grow n) (width (w n)) (grow-length n) (assignments w n), assignments-count n)

  -- what stands before and after an assignment
  unfoldable pub prior : ℕ → List ℤ → List (List ℤ)
  prior zero vs = []
  prior (suc n) vs = flat_map (grow n) (prior n vs) ++ extend (take n vs) (up_from (natural (get_or vs n (pos 0) -ℤ (w n).lo)) (w n).lo)

  unfoldable pub after : ℕ → List ℤ → List (List ℤ)
  after zero vs = []
  after (suc n) vs = extend (take n vs) (up_from (natural ((w n).hi -ℤ get_or vs n (pos 0))) (get_or vs n (pos 0) +ℤ pos 1)) ++ flat_map (grow n) (after n vs)

  pub prior-rank : (n : ℕ) (vs : List ℤ) → length (prior n vs) ≡ rank w n vs
  unfolding prior rank
  prior-rank zero vs = refl
  prior-rank (suc n) vs =
      let k = natural (get_or vs n (pos 0) -ℤ (w n).lo) in
      let zs = up_from k (w n).lo in
      rw (
        length-append (flat_map (grow n) (prior n vs)) (extend (take n vs) zs),
        flat_map-length (grow n) (width (w n)) (grow-length n) (prior n vs),
        prior-rank n vs,
        length-map zs (λ z. take n vs ++ (z ∷ [])),
        up_from-length k (w n).lo,
      )

  -- a list of values in their windows is one of the assignments
  pub assignments-split : (n : ℕ) (vs : List ℤ) → n ≤ length vs → Lie w n vs → assignments w n ≡ prior n vs ++ (take n vs ∷ after n vs)
  unfolding assignments prior after flat_map
  assignments-split zero vs l h = refl
  assignments-split (suc n) vs l h =
      let t = take n vs in
      let v = get_or vs n (pos 0) in
      let s = seat (w n) v (h n (omega arith)) in
      let f : ℤ → List ℤ = λ z. t ++ (z ∷ []) in
      let bs = up_from s.below (w n).lo in
      let os = up_from s.over (v +ℤ pos 1) in
      rw (
        seat-below (w n) v s,
        seat-over (w n) v s,
        take-suc vs n (pos 0) l,
        assignments-split n vs (omega arith) (λ i k. h i (omega arith)),
        flat_map-append (grow n) (prior n vs) (t ∷ after n vs),
        seat-values (w n) v s,
        map-append f bs (v ∷ os),
      )
      (simp append_assoc)

  -- ---- each of them lies in its windows, and as many come before it as its rank says

  pub record Placed (n r : ℕ) (vs : List ℤ) : Type 0 where
    pub size : length vs ≡ n
    pub lie : Lie w n vs
    pub ranked : rank w n vs ≡ r

  -- a rank goes by the first n values
  pub rank_same : (n : ℕ) (us vs : List ℤ) → ((i : ℕ) → i < n → get_or us i (pos 0) ≡ get_or vs i (pos 0)) → rank w n us ≡ rank w n vs
  unfolding rank
  rank_same zero us vs h = refl
  rank_same (suc n) us vs h = rw (rank_same n us vs (λ i l. h i (omega arith)), h n (omega arith))

  module _ (n r : ℕ) (us : List ℤ) (p : Placed n r us) where
    front : (z : ℤ) (i : ℕ) → i < n → get_or (us ++ (z ∷ [])) i (pos 0) ≡ get_or us i (pos 0)
    front z i l = get_or-append us (z ∷ []) (pos 0) i (rw p.size l)

    last : (z : ℤ) → get_or (us ++ (z ∷ [])) n (pos 0) ≡ z
    last z = get_or_at us z [] (pos 0) n p.size

    one_more : (j : ℕ) → j < width (w n) → Placed (suc n) (r * width (w n) + j) (us ++ (((w n).lo +ℤ pos j) ∷ []))
    unfolding rank
    one_more j h = record {
      size = omega (arith, length-append us (((w n).lo +ℤ pos j) ∷ []), p.size);
      lie = lies;
      ranked = rw (rank_same n (us ++ (z ∷ [])) us (front z), last z, p.ranked, gap (w n).lo j);
    }
      where
        z : ℤ
        z = (w n).lo +ℤ pos j

        lies : Lie w (suc n) (us ++ (z ∷ []))
        lies i l = ⊎_elim
            (λ k. rw (front z i k) (p.lie i k))
            (λ k. let e : i ≡ n = omega arith in rw (e, last z) (value-inside (w n) j h))
            (lt-or-le i n)

    extended : (k j : ℕ) → j + k ≤ width (w n) → Numbered (Placed (suc n)) (r * width (w n) + j) (extend us (up_from k ((w n).lo +ℤ pos j)))
    unfolding up_from
    extended zero j h = tt
    extended (suc k) j h =
        let e : r * width (w n) + (j + 1) ≡ r * width (w n) + j + 1 = omega arith in
        (one_more j (omega arith), rw (more (w n).lo j 1, ← e) (extended k (j + 1) (omega arith)))

  grown : (n a : ℕ) (xs : List (List ℤ)) → Numbered (Placed n) a xs → Numbered (Placed (suc n)) (a * width (w n)) (flat_map (grow n) xs)
  unfolding flat_map
  grown n a [] h = tt
  grown n a (x ∷ xs) h =
      let e : a * width (w n) + 0 ≡ a * width (w n) = omega arith in
      numbered-append (Placed (suc n)) (a * width (w n)) ((a + 1) * width (w n)) (grow n x) (flat_map (grow n) xs) (omega (arith, grow-length n x))
      (rw (e, +ℤ_idr (w n).lo) at (extended n a x h.0 (width (w n)) 0 (omega arith)))
      (grown n (a + 1) xs h.1)

  pub assignments-placed : (n : ℕ) → Numbered (Placed n) 0 (assignments w n)
  unfolding assignments rank
  assignments-placed zero = (record { size = refl; lie = λ i l. absurd (let z : ⊥ = omega arith in z); ranked = refl }, tt)
  assignments-placed (suc n) =
      let e : 0 * width (w n) ≡ 0 = omega arith in
      rw e at (grown n 0 (assignments w n) (assignments-placed n))

-- where all variables have one window, the count is a power of its width
pub count-power : (w : Window) (n : ℕ) → count (λ i. w) n ≡ width w ^ n
unfolding count
count-power w zero = rw pow-zero
count-power w (suc n) = rw (count-power w n, pow-suc)
