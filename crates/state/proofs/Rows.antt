-- Rows that are written in place, rows that are loaded from a list, and rows and their windows.
use mathlib.Core.Path.{◌≡◌, refl, sym, ap, ◌∙◌}
use mathlib.Core.Bool.{Bool, true, false}
use mathlib.Core.List.{List, [], ◌∷◌, ◌++◌, map, map-append}
use Prim.Native.Nat.{ℕ, zero, suc, ◌+◌, ◌^◌, ◌≤◌, ◌<◌}
use native.Mathlib.Nat.{not-suc-le-zero, le_of_suc-le-suc}
use native.Mathlib.Decide.{dec_lt}
use native.Mathlib.Numerals.{add-one}
use native.Mathlib.Omega.{arith}
use lib.ListN.{length, get_or, take, drop, set, replicate, length-map, length-drop}
use lib.Seq.{take-suc, drop-drop, take_all, length-take-le}
use lib.Dec.{leb}
use lib.IntN.{ℤ, pos}
use lib.Signed.{mag}
use borrow.Author.Tests.{le-leb, lt-leb}
use mir.Syntax.{w32}
use mir.Val.{hbits, to_z, of_z}
use Rattle.whole.specs.Whole.{own}
use Rattle.meaning.specs.Book.{Window}
use Rattle.lists.specs.Compare.{all_in, first_out}
use Rattle.lists.specs.Trace.{sum, cut, all_rows, first_out_rows}
use Rattle.instance.proofs.Laws.{all-by, some-by}
use Rattle.state.specs.State.{front, over, first_rows}
use Rattle.state.specs.Laws.{front-more, front-next}
use Rattle.state.proofs.Shape.{arity-cons, arity-none}

-- ---- values put over the front of a row, one more

pub over_none : (xs row : List ℤ) → over (take 0 xs) row ≡ row
unfolding over
over_none xs row = refl

pub over-more : (xs row : List ℤ) (j : ℕ) → j < length xs → j < length row → set (over (take j xs) row) j (get_or xs j (pos 0)) ≡ over (take (j + 1) xs) row
unfolding over
over-more xs row j h k = rw (add-one j) (go xs row j h k)
  where
    go : (xs row : List ℤ) (j : ℕ) → j < length xs → j < length row → set (over (take j xs) row) j (get_or xs j (pos 0)) ≡ over (take (suc j) xs) row
    go [] row j h k = absurd (not-suc-le-zero h)
    go (x ∷ xs) [] j h k = absurd (not-suc-le-zero k)
    go (x ∷ xs) (y ∷ row) zero h k = refl
    go (x ∷ xs) (y ∷ row) (suc j) h k = ap (λ (t : List ℤ). x ∷ t) (go xs row j (le_of_suc-le-suc h) (le_of_suc-le-suc k))

-- as the code stores it
pub row_more : (row row₀ xs : List ℤ) (j : ℕ) (x : ℤ) → mag x < 2 ^ hbits w32 → x ≡ get_or xs j (pos 0) → j < length xs → j < length row₀ → row ≡ over (take j xs) row₀
    → set row j (to_z w32 (of_z w32 x)) ≡ over (take (j + 1) xs) row₀
row_more row row₀ xs j x f q h k e = rw (own w32 x f, e, q) (over-more xs row₀ j h k)

pub over-all : (xs row : List ℤ) (j : ℕ) → length xs ≤ j → over (take j xs) row ≡ over xs row
over-all xs row j h = ap (λ (v : List ℤ). over v row) (take_all j xs h)

over_zeros : (v : List ℤ) (m : ℕ) → length v ≤ m → over v (replicate m (pos 0)) ≡ front (pos 0) m v
unfolding over front
over_zeros [] zero h = refl
over_zeros [] (suc m) h = ap (λ (t : List ℤ). pos 0 ∷ t) (over_zeros [] m (omega arith))
over_zeros (x ∷ v) zero h = absurd (not-suc-le-zero h)
over_zeros (x ∷ v) (suc m) h = ap (λ (t : List ℤ). x ∷ t) (over_zeros v m (le_of_suc-le-suc h))

-- ---- rows cut off a list

pub sum-split : (ns : List ℕ) (r : ℕ) → sum (take r ns) + sum (drop r ns) ≡ sum ns
unfolding sum
sum-split ns zero = omega arith
sum-split [] (suc r) = refl
sum-split (n ∷ ns) (suc r) = omega (arith, sum-split ns r)

cut-length : (ns : List ℕ) (l : List ℤ) → length (cut ns l) ≡ length ns
unfolding cut
cut-length [] l = refl
cut-length (n ∷ ns) l = ap suc (cut-length ns (drop n l))

cut_at : (ns : List ℕ) (l : List ℤ) (r : ℕ) → r < length ns → get_or (cut ns l) r [] ≡ take (get_or ns r 0) (drop (sum (take r ns)) l)
unfolding cut sum
cut_at [] l r h = absurd (not-suc-le-zero h)
cut_at (n ∷ ns) l zero h = refl
cut_at (n ∷ ns) l (suc r) h = cut_at ns (drop n l) r (le_of_suc-le-suc h) ∙ ap (take (get_or ns r 0)) (drop-drop (sum (take r ns)) n l)

-- the rows when r of them are loaded
unfoldable pub loaded : List ℕ → List ℤ → ℕ → List (List ℤ)
loaded ns l r = front (replicate 8 (pos 0)) 16 (map (front (pos 0) 8) (take r (cut ns l)))

module _ (ns : List ℕ) (l : List ℤ) where
  pub loaded-none : replicate 16 (replicate 8 (pos 0)) ≡ loaded ns l 0
  unfolding loaded front
  loaded-none = refl

  pub loaded-all : (r : ℕ) → length ns ≤ r → loaded ns l r ≡ first_rows ns l
  unfolding loaded first_rows
  loaded-all r h = ap (λ (t : List (List ℤ)). front (replicate 8 (pos 0)) 16 (map (front (pos 0) 8) t)) (take_all r (cut ns l) (rw (cut-length ns l) h))

  module _ (r : ℕ) (h : r < length ns) (few : length ns ≤ 16) where
    many : length (map (front (pos 0) 8) (take r (cut ns l))) ≡ r
    many = length-map (take r (cut ns l)) _ ∙ length-take-le r (cut ns l) (rw (cut-length ns l) (omega arith))

    pub loaded-more : (v : List ℤ) → v ≡ get_or (cut ns l) r [] → length v ≤ 8 → set (loaded ns l r) r (over v (get_or (loaded ns l r) r [])) ≡ loaded ns l (r + 1)
    unfolding loaded
    loaded-more v e k =
        let xs = map (front (pos 0) 8) (take r (cut ns l)) in
        let z = replicate 8 (pos 0) in
        let here : get_or (front z 16 xs) r [] ≡ z = rw many at (front-next z 16 xs [] (rw many (omega arith))) in
        let next : map (front (pos 0) 8) (take (r + 1) (cut ns l)) ≡ xs ++ (front (pos 0) 8 v ∷ []) =
        rw (add-one r, take-suc (cut ns l) r [] (rw (cut-length ns l) h), map-append, e) in
        let row : over v (get_or (front z 16 xs) r []) ≡ front (pos 0) 8 v = ap (over v) here ∙ over_zeros v 8 k in
        let put : set (front z 16 xs) r (front (pos 0) 8 v) ≡ front z 16 (xs ++ (front (pos 0) 8 v ∷ [])) = rw many at (front-more z 16 xs (front (pos 0) 8 v) (rw many (omega arith))) in
        ap (set (front z 16 xs) r) row ∙ put ∙ ap (front z 16) (sym next)

  -- what stands from p on, where the code is at relation r
  pub load_row : (l' : List ℤ) (at p r : ℕ) → l ≡ drop at l' → p + sum (drop r ns) ≡ at + sum ns → r < length ns → take (get_or ns r 0) (drop p l') ≡ get_or (cut ns l) r []
  load_row l' at p r e q h =
      let z : p ≡ at + sum (take r ns) = omega (arith, sum-split ns r) in
      rw (cut_at ns l r h, e, drop-drop (sum (take r ns)) at l', z)

-- ---- rows and their windows, from relation r on

abbrev pub past : (ℕ → ℕ → Window) → ℕ → ℕ → ℕ → Window
past w zero = w
past w (suc r) = λ q. past w r (suc q)

past-at : (w : ℕ → ℕ → Window) (r q : ℕ) → past w r q ≡ w (q + r)
past-at w zero q = ap w (omega arith)
past-at w (suc r) q = past-at w r (suc q) ∙ ap w (omega arith)

module _ (w : ℕ → ℕ → Window) (v : List ℤ) (vs : List (List ℤ)) (p : ℕ) where
  out-on : all_in (w 0) v ≡ true → first_out_rows w p (v ∷ vs) ≡ first_out_rows (λ r. w (suc r)) (p + length v) vs
  unfolding first_out_rows
  out-on e = ap (λ (t : Bool). elim t [ true ↦ first_out_rows (λ r. w (suc r)) (p + length v) vs | false ↦ first_out (w 0) p v ]) e

  out-stop : all_in (w 0) v ≡ false → first_out_rows w p (v ∷ vs) ≡ first_out (w 0) p v
  unfolding first_out_rows
  out-stop e = ap (λ (t : Bool). elim t [ true ↦ first_out_rows (λ r. w (suc r)) (p + length v) vs | false ↦ first_out (w 0) p v ]) e

module _ (w : ℕ → ℕ → Window) (ns : List ℕ) (l : List ℤ) (r p : ℕ) where
  pub rows_none : length ns ≤ r → first_out_rows (past w r) p (cut (drop r ns) (drop p l)) ≡ p
  unfolding first_out_rows cut
  rows_none h = rw (arity-none ns r h)

  module _ {m o : ℕ} (h : r < length ns) (e : m ≡ get_or ns r 0) (fits : p + m ≤ length l) (q : o ≡ first_out (w r) p (take m (drop p l))) where
    long : length (take m (drop p l)) ≡ m
    long = length-take-le m (drop p l) (rw length-drop (omega arith))

    opened : cut (drop r ns) (drop p l) ≡ take m (drop p l) ∷ cut (drop (r + 1) ns) (drop (p + m) l)
    unfolding cut
    opened = rw (arity-cons ns r h, ← e, drop-drop m p l)

    here : past w r 0 ≡ w r
    here = past-at w r 0 ∙ ap w (omega arith)

    pub rows-stop : o < p + m → first_out_rows (past w r) p (cut (drop r ns) (drop p l)) ≡ o
    rows-stop k =
        rw (opened, out-stop (past w r) (take m (drop p l)) (cut (drop (r + 1) ns) (drop (p + m) l)) p (rw here (some-by (w r) (take m (drop p l)) p (omega (arith, long)))), here) (sym q)

    pub rows_on : p + m ≤ o → first_out_rows (past w r) p (cut (drop r ns) (drop p l)) ≡ first_out_rows (past w (r + 1)) (p + m) (cut (drop (r + 1) ns) (drop (p + m) l))
    rows_on k =
        rw (opened, out-on (past w r) (take m (drop p l)) (cut (drop (r + 1) ns) (drop (p + m) l)) p (rw here (all-by (w r) (take m (drop p l)) p (omega (arith, long)))), long, add-one r)

-- all are inside where the first that is not lies past them
out_below : (w : ℕ → Window) (v : List ℤ) (p : ℕ) → all_in w v ≡ false → first_out w p v < p + length v
out_below w v p e = go (dec_lt (first_out w p v) (p + length v))
  where
    go : Dec (first_out w p v < p + length v) → first_out w p v < p + length v
    go (yes k) = k
    go (no k) = absurd (let z : true ≡ false = sym (all-by w v p (omega arith)) ∙ e in let y : ◌≡◌ {A = ℕ} 0 1 = cc in omega arith)

pub rows_all : (w : ℕ → ℕ → Window) (ns : List ℕ) (l : List ℤ) (p : ℕ) → sum ns ≤ length l → leb (p + sum ns) (first_out_rows w p (cut ns l)) ≡ all_rows w (cut ns l)
unfolding all_rows cut sum first_out_rows
rows_all w [] l p h = le-leb (p + 0) p (omega arith)
rows_all w (n ∷ ns) l p h = go (all_in (w 0) (take n l)) refl (rows_all (λ r. w (suc r)) ns (drop n l) (p + n) (rw length-drop (omega arith)))
  where
    long : length (take n l) ≡ n
    long = length-take-le n l (omega arith)

    go : (t : Bool) → all_in (w 0) (take n l) ≡ t → leb (p + n + sum ns) (first_out_rows (λ r. w (suc r)) (p + n) (cut ns (drop n l))) ≡ all_rows (λ r. w (suc r)) (cut ns (drop n l))
        → leb (p + (n + sum ns)) (first_out_rows w p (take n l ∷ cut ns (drop n l))) ≡ all_rows w (take n l ∷ cut ns (drop n l))
    go true e rest = let z : p + (n + sum ns) ≡ p + n + sum ns = omega arith in rw (out-on w (take n l) (cut ns (drop n l)) p e, e, long, z) rest
    go false e rest = rw (out-stop w (take n l) (cut ns (drop n l)) p e, e) (lt-leb (p + (n + sum ns)) (first_out (w 0) p (take n l)) (omega (arith, out_below (w 0) (take n l) p e, long)))
