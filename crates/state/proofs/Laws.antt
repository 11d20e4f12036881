-- The ways of the functions over a state.
use mathlib.Core.Path.{◌≡◌, refl, sym, ap₂, ◌∙◌}
use mathlib.Core.Bool.{Bool, true, false, ◌&&◌}
use mathlib.Core.List.{List, [], ◌∷◌, ◌++◌, map}
use Prim.Native.Nat.{ℕ, ◌+◌, ◌^◌, ◌≤◌, ◌<◌}
use native.Mathlib.Numerals.{add-one}
use native.Mathlib.Omega.{arith}
use lib.ListN.{length, get_or, take, drop, set}
use lib.Seq.{take-length}
use lib.Dec.{eqb, leb}
use lib.IntN.{ℤ, pos, negsuc}
use lib.Signed.{mag}
use mir.Syntax.{w32}
use mir.Val.{hbits, of_z, bool_byte}
use borrow.Author.Tests.{eqb-true, eqb-false, eq-eqb, ne_eqb}
use Rattle.meaning.specs.Book.{head, body}
use Rattle.meaning.specs.State.{bit, flags}
use Rattle.lists.specs.Compare.{eq_z, eq_vals, first_diff}
use Rattle.lists.specs.Instance.{step_at}
use Rattle.lists.specs.Derivation.{goal}
use Rattle.lists.specs.Trace.{flat, state_numbers, has, meets}
use Rattle.book.specs.declared.Header.{Header}
use Rattle.book.specs.Read.{read}
use Rattle.book.specs.Meaning.{book_in}
use Rattle.book.specs.Arities.{relations-are}
use Rattle.table.specs.declared.Seat.{Seat}
use Rattle.table.specs.declared.Row.{Row}
use Rattle.table.specs.Table.{IsRow}
use Rattle.instance.specs.Values.{values_at}
use Rattle.instance.proofs.Numbers.{same_number}
use Rattle.instance.proofs.Atoms.{head_at, body-none, body_at, body_below}
use Rattle.state.specs.State.{front, rows_of, state_of, over, row_put}
use Rattle.state.specs.Laws.{front_length, front-take, rows-cons, state-has}
use Rattle.state.proofs.Shape.{relation-few, relation-there, arities-small, arity-cons, arity-none}
use Rattle.state.proofs.Difference.{diff-nil, diff-all, parts-stop, parts-on}
use Rattle.std.specs.Prelude as code
use Rattle.std.specs.Prelude.{Ok}

-- ---- a flag's number

pub flag_is : (x : ℤ) (f : Bool) → mag x < 2 ^ hbits w32 → eqb (of_z w32 x) (bool_byte f) ≡ eq_z x (bit f)
flag_is x true h = same_number x (pos 1) h (omega arith)
flag_is x false h = same_number x (pos 0) h (omega arith)

-- ---- the places from relation r on, in a list from p on

module _ (ns : List ℕ) (r : ℕ) (vs : List (List ℤ)) where
  places-cons : r < length ns → flat (rows_of (drop r ns) (drop r vs)) ≡ front (pos 0) (get_or ns r 0) (get_or vs r []) ++ flat (rows_of (drop (r + 1) ns) (drop (r + 1) vs))
  unfolding flat
  places-cons h = rw (arity-cons ns r h, add-one r, rows-cons)

  module _ (l : List ℤ) (p : ℕ) {x : ℕ} where
    pub places-none : length ns ≤ r → x ≡ p → x ≡ first_diff p (drop p l) (flat (rows_of (drop r ns) (drop r vs)))
    unfolding flat rows_of
    places-none h e = rw (arity-none ns r h) (e ∙ sym (diff-nil p (drop p l)))

    module _ (m : ℕ) {d : ℕ} (h : r < length ns) (k : m ≡ get_or ns r 0) (fits : p + m ≤ length l) (q : d ≡ first_diff p (drop p l) (front (pos 0) m (get_or vs r []))) where
      pub places-stop : d < p + m → x ≡ d → x ≡ first_diff p (drop p l) (flat (rows_of (drop r ns) (drop r vs)))
      places-stop g e = rw (places-cons h, ← k) (parts-stop l p _ _ m q (front_length (pos 0) m _) fits g e)

      pub places-on : p + m ≤ d → x ≡ first_diff (p + m) (drop (p + m) l) (flat (rows_of (drop (r + 1) ns) (drop (r + 1) vs)))
          → x ≡ first_diff p (drop p l) (flat (rows_of (drop r ns) (drop r vs)))
      places-on g e = rw (places-cons h, ← k) (parts-on l p _ _ m q (front_length (pos 0) m _) fits g e)

-- ---- the numbers of a state

pub numbers-are : (s : List ℕ) (h : Header) (fs : List Bool) (vs : List (List ℤ)) (n : ℕ) → read s ≡ Ok h → n ≡ h.relations
    → state_numbers (book_in s h) flags (state_of (book_in s h).arities fs vs) ≡ map bit (front false n fs) ++ flat (rows_of (book_in s h).arities vs)
unfolding state_numbers state_of
numbers-are s h fs vs n good k = rw (k, relations-are s h good)

-- ---- whether a state holds a fact

eqb-turn : (m n : ℕ) → eqb m n ≡ eqb n m
eqb-turn m n = go (eqb m n) refl
  where
    go : (t : Bool) → eqb m n ≡ t → eqb m n ≡ eqb n m
    go true e = e ∙ sym (eq-eqb n m (sym (eqb-true m n e)))
    go false e = e ∙ sym (ne_eqb n m (λ q. eqb-false m n e (sym q)))

eq_z-turn : (x y : ℤ) → eq_z x y ≡ eq_z y x
unfolding eq_z
eq_z-turn (pos m) (pos n) = eqb-turn m n
eq_z-turn (pos m) (negsuc n) = refl
eq_z-turn (negsuc m) (pos n) = refl
eq_z-turn (negsuc m) (negsuc n) = eqb-turn m n

vals-turn : (xs ys : List ℤ) → eq_vals xs ys ≡ eq_vals ys xs
unfolding eq_vals
vals-turn [] [] = refl
vals-turn [] (y ∷ ys) = refl
vals-turn (x ∷ xs) [] = refl
vals-turn (x ∷ xs) (y ∷ ys) = ap₂ ◌&&◌ (eq_z-turn x y) (vals-turn xs ys)

module _ (s : List ℕ) (h : Header) (good : read s ≡ Ok h) (fs : List Bool) (vs : List (List ℤ)) {r : ℕ} (below : r < h.relations) {n : ℕ} (full : n ≡ get_or (book_in s h).arities r 0) where
  pub has-is : (vals : List ℤ) → has (book_in s h) flags (goal r vals) (state_of (book_in s h).arities fs vs) ≡ (get_or fs r false && eq_vals (front (pos 0) n (get_or vs r [])) vals)
  has-is vals = rw (← full) at (state-has (book_in s h).arities fs vs (book_in s h) (goal r vals) (rw (relations-are s h good) below))

  pub holds-off : (vals : List ℤ) → get_or fs r false ≡ false → false ≡ has (book_in s h) flags (goal r vals) (state_of (book_in s h).arities fs vs)
  holds-off vals off = rw (has-is vals, off)

  -- by the values as they are met, from the front of the row
  pub holds_row : {x : Bool} (vals : List ℤ) → n ≤ length (get_or vs r []) → get_or fs r false ≡ true → x ≡ eq_vals vals (take n (get_or vs r []))
      → x ≡ has (book_in s h) flags (goal r vals) (state_of (book_in s h).arities fs vs)
  holds_row vals k on q = rw (has-is vals, on, front-take (pos 0) n (get_or vs r []) k) (q ∙ vals-turn vals (take n (get_or vs r [])))

module _ (s : List ℕ) (h : Header) (good : read s ≡ Ok h) (fs : List Bool) (vs : List (List ℤ)) (r : ℕ) (vals : List ℤ) (below : r < h.relations) (full : length vals ≡ get_or (book_in s h).arities r 0) where
  pub holds_on : {d : ℕ} → length vals ≤ length (get_or vs r []) → d ≡ first_diff 0 (get_or vs r []) (front (pos 0) (length vals) vals) → get_or fs r false ≡ true
      → leb (length vals) d ≡ has (book_in s h) flags (goal r vals) (state_of (book_in s h).arities fs vs)
  holds_on k q on =
      let z : 0 + length vals ≡ length vals = omega arith in
      let own : front (pos 0) (length vals) vals ≡ vals = front-take (pos 0) (length vals) vals (omega arith) ∙ take-length vals in
      rw (has-is s h good fs vs below full vals, on, q, own, front-take (pos 0) (length vals) (get_or vs r []) k) (rw z at (diff-all 0 (get_or vs r []) vals k))

-- ---- whether a state meets the body of a step by clause k, whose row is `row`

module _ {s : List ℕ} {h : Header} (good : read s ≡ Ok h) {k : ℕ} {row : Row} (w : IsRow s h k row) (l : List ℤ) (j : ℕ) (fs : List Bool) (vs : List (List ℤ)) where
  abbrev met : Bool
  met = meets (book_in s h) flags (body (book_in s h) (step_at (book_in s h) k (drop j l))) (state_of (book_in s h).arities fs vs)

  pub meets-none : row.body ≡ code.None → true ≡ met
  unfolding meets
  meets-none e = rw (body-none w l j e)

  module _ {x : Seat} (e : row.body ≡ code.Some x) where
    abbrev below : x.relation < h.relations
    below = (body_below w l j e).0

    as_row : {y : Bool} → y ≡ has (book_in s h) flags (goal x.relation (values_at s l x.at j x.many)) (state_of (book_in s h).arities fs vs) → y ≡ met
    unfolding meets
    as_row z = rw (body_at w l j e) z

    pub body-few : x.relation < 16
    body-few = relation-few s h good refl below

    pub body-small : x.many ≤ 8
    body-small = omega (arith, (body_below w l j e).1, arities-small s h good x.relation (relation-there s h good refl below))

    pub meets-off : get_or fs x.relation false ≡ false → false ≡ met
    meets-off off = as_row (holds-off s h good fs vs below refl _ off)

    pub meets-row : {y : Bool} → x.many ≤ length (get_or vs x.relation []) → get_or fs x.relation false ≡ true
        → y ≡ eq_vals (values_at s l x.at j x.many) (take x.many (get_or vs x.relation [])) → y ≡ met
    meets-row b on z = as_row (holds_row s h good fs vs below (body_below w l j e).1 (values_at s l x.at j x.many) b on z)

-- ---- the head put into its row

pub head_few : {s : List ℕ} {h : Header} {k : ℕ} {row : Row} → read s ≡ Ok h → IsRow s h k row → row.head.relation < 16
head_few {s} {h} good w = relation-few s h good refl w.head.below

module _ {s : List ℕ} {h : Header} {k : ℕ} {row : Row} (w : IsRow s h k row) (l : List ℤ) (j : ℕ) where
  pub head_set : (fs : List Bool) → set fs row.head.relation true ≡ set fs (head (book_in s h) (step_at (book_in s h) k (drop j l))).rel true
  head_set fs = rw (head_at w l j)

  pub head-put : (vs : List (List ℤ)) (v : List ℤ) → v ≡ over (values_at s l row.head.at j row.head.many) (get_or vs row.head.relation [])
      → set vs row.head.relation v ≡ row_put (head (book_in s h) (step_at (book_in s h) k (drop j l))) vs
  unfolding row_put
  head-put vs v e = rw (head_at w l j, e)
