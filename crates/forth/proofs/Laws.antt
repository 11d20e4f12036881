-- The laws of writing a state's numbers, and of the first state's.
use mathlib.Core.Path.{◌≡◌, refl, ap, ◌∙◌}
use mathlib.Core.Bool.{Bool, true, false}
use mathlib.Core.List.{List, [], ◌∷◌, ◌++◌, map}
use Prim.Native.Nat.{ℕ, zero, suc, ◌+◌, ◌^◌, ◌≤◌, ◌<◌}
use native.Mathlib.Nat.{not-suc-le-zero, le_of_suc-le-suc}
use native.Mathlib.Numerals.{add-one}
use native.Mathlib.Omega.{arith}
use lib.ListN.{length, get_or, set, take, drop, replicate, length-map}
use lib.Seq.{take_all}
use Rattle.std.proofs.lemmas.List.{length-take, get_or-map}
use lib.IntN.{ℤ, pos}
use lib.Signed.{mag}
use mir.Syntax.{w32}
use mir.Val.{hbits, to_z, of_z, bool_byte}
use Rattle.whole.specs.Whole.{own}
use Rattle.meaning.specs.Book.{Book, Window, place_window}
use Rattle.meaning.specs.State.{Control, flags, bit, low_row, low_rows, first}
use Rattle.lists.specs.Trace.{flat, state_numbers}
use Rattle.steps.specs.Put.{Put, put-next}
use Rattle.state.specs.State.{front, rows_of, placed, state_of}
use Rattle.state.specs.Laws.{front-take, rows-cons, front-more, front-replicate}
use Rattle.state.proofs.Shape.{arity-cons, arity-none, relations-few}
use Rattle.state.proofs.Laws.{numbers-are}
use Rattle.book.specs.declared.Header.{Header}
use Rattle.book.specs.Read.{read}
use Rattle.book.specs.Meaning.{book_in}
use Rattle.std.specs.Prelude.{Ok}

-- ---- flags

-- a flag's number, as the code has it
bit-is : (f : Bool) → to_z w32 (bool_byte f) ≡ bit f
bit-is true = refl
bit-is false = refl

-- one flag more
pub flags-more : (d e : List ℤ) (at j : ℕ) (fs : List Bool) → Put d e at (take j (map bit fs)) → at + length fs ≤ length d → j < length fs
    → Put d (set e (at + j) (to_z w32 (bool_byte (get_or fs j false)))) at (take (j + 1) (map bit fs))
flags-more d e at j fs w h k =
    let n = length-map fs bit in
    rw (bit-is, ← (get_or-map bit fs j false (pos 0) k)) (put-next at j (map bit fs) (pos 0) w (omega (arith, n)) (omega (arith, n)))

-- ---- places

pub places-next : (ns : List ℕ) (vs : List (List ℤ)) (r : ℕ) {m : ℕ} → r < length ns → m ≡ get_or ns r 0 → length (take m (get_or vs r [])) ≡ m
    → flat (rows_of (drop r ns) (drop r vs)) ≡ take m (get_or vs r []) ++ flat (rows_of (drop (r + 1) ns) (drop (r + 1) vs))
unfolding flat
places-next ns vs r {m} h k long =
    let all : m ≤ length (get_or vs r []) = omega (arith, long, length-take m (get_or vs r [])) in
    rw (arity-cons ns r h, add-one r, rows-cons, ← k, front-take (pos 0) m (get_or vs r []) all) refl

pub places-none : (ns : List ℕ) (vs : List (List ℤ)) {r : ℕ} → length ns ≤ r → flat (rows_of (drop r ns) (drop r vs)) ≡ []
unfolding flat rows_of
places-none ns vs {r} h = rw (arity-none ns r h) refl

-- ---- a state

pub state-parts : (s : List ℕ) (h : Header) (fs : List Bool) (vs : List (List ℤ)) {n : ℕ} → read s ≡ Ok h → n ≡ h.relations → length fs ≡ 16
    → state_numbers (book_in s h) flags (state_of (book_in s h).arities fs vs) ≡ map bit (take n fs) ++ flat (rows_of (book_in s h).arities vs)
state-parts s h fs vs {n} good k long = rw (← (front-take false n fs (omega (arith, relations-few s h good)))) (numbers-are s h fs vs n good k)

-- ---- the first state: every place at the low end of its window

low-snoc : (w : ℕ → Window) (n : ℕ) → low_row w (suc n) ≡ low_row w n ++ ((w n).lo ∷ [])
low-snoc w zero = refl
low-snoc w (suc n) = ap (◌∷◌ (w 0).lo) (low-snoc (λ i. w (suc i)) n)

lows-snoc : (w : ℕ → ℕ → Window) (n k : ℕ) → low_rows w (replicate (suc n) k) ≡ low_rows w (replicate n k) ++ (low_row (w n) k ∷ [])
lows-snoc w zero k = refl
lows-snoc w (suc n) k = ap (◌∷◌ (low_row (w 0) k)) (lows-snoc (λ r. w (suc r)) n k)

low-length : (w : ℕ → Window) (n : ℕ) → length (low_row w n) ≡ n
low-length w zero = refl
low-length w (suc n) = ap suc (low-length (λ i. w (suc i)) n)

lows-length : (w : ℕ → ℕ → Window) (n k : ℕ) → length (low_rows w (replicate n k)) ≡ n
lows-length w zero k = refl
lows-length w (suc n) k = ap suc (lows-length (λ r. w (suc r)) n k)

front-all : {A : Type 0} (d : A) (n : ℕ) (l : List A) → length l ≡ n → front d n l ≡ l
front-all d n l e = front-take d n l (omega arith) ∙ take_all n l (omega arith)

-- j places of a row of eight, with zeros after them; r rows of sixteen, with rows of zeros after them
abbrev pub low_upto : (ℕ → Window) → ℕ → List ℤ
low_upto w j = front (pos 0) 8 (low_row w j)

abbrev pub lows_upto : (ℕ → ℕ → Window) → ℕ → List (List ℤ)
lows_upto w r = front (replicate 8 (pos 0)) 16 (low_rows w (replicate r 8))

module _ (w : ℕ → Window) where
  pub low-none : replicate 8 (pos 0) ≡ low_upto w 0
  unfolding front
  low-none = refl

  pub low-more : (row : List ℤ) (j : ℕ) {x : ℤ} → j < 8 → x ≡ (w j).lo → mag x < 2 ^ hbits w32 → row ≡ low_upto w j → set row j (to_z w32 (of_z w32 x)) ≡ low_upto w (j + 1)
  low-more row j {x} h k m e =
      let n = low-length w j in
      rw (own w32 x m, e, add-one j, low-snoc w j, k) (rw n at (front-more (pos 0) 8 (low_row w j) (w j).lo (omega arith)))

  pub low-all : (row : List ℤ) (j : ℕ) → row ≡ low_upto w j → j ≡ 8 → row ≡ low_row w 8
  low-all row j q e = (rw e at q) ∙ front-all (pos 0) 8 (low_row w 8) (low-length w 8)

module _ (w : ℕ → ℕ → Window) where
  pub lows-none : replicate 16 (replicate 8 (pos 0)) ≡ lows_upto w 0
  unfolding front
  lows-none = refl

  pub lows-more : (rows : List (List ℤ)) (r : ℕ) {v : List ℤ} → r < 16 → v ≡ low_row (w r) 8 → rows ≡ lows_upto w r → set rows r v ≡ lows_upto w (r + 1)
  lows-more rows r {v} h k e =
      let n = lows-length w r 8 in
      rw (e, add-one r, lows-snoc w r 8, k) (rw n at (front-more (replicate 8 (pos 0)) 16 (low_rows w (replicate r 8)) (low_row (w r) 8) (omega arith)))

  pub lows-all : (rows : List (List ℤ)) (r : ℕ) → rows ≡ lows_upto w r → r ≡ 16 → rows ≡ low_rows w (replicate 16 8)
  lows-all rows r q e = (rw e at q) ∙ front-all (replicate 8 (pos 0)) 16 (low_rows w (replicate 16 8)) (lows-length w 16 8)

low-front : (w : ℕ → Window) (n k : ℕ) → n ≤ k → front (pos 0) n (low_row w k) ≡ low_row w n
unfolding front
low-front w zero k h = refl
low-front w (suc n) zero h = absurd (not-suc-le-zero h)
low-front w (suc n) (suc k) h = ap (◌∷◌ (w 0).lo) (low-front (λ j. w (suc j)) n k (le_of_suc-le-suc h))

rows_of-low_rows : (w : ℕ → ℕ → Window) (ns : List ℕ) (m k : ℕ) → length ns ≤ m → ((r : ℕ) → r < length ns → get_or ns r 0 ≤ k) → rows_of ns (low_rows w (replicate m k)) ≡ low_rows w ns
unfolding rows_of
rows_of-low_rows w [] m k h f = refl
rows_of-low_rows w (n ∷ ns) zero k h f = absurd (not-suc-le-zero h)
rows_of-low_rows w (n ∷ ns) (suc m) k h f = λ i.
    low-front (w 0) n k (f 0 (omega arith)) i ∷ rows_of-low_rows (λ r. w (suc r)) ns m k (le_of_suc-le-suc h) (λ r q. f (suc r) (omega arith)) i

module _ (b : Book) (few : length b.arities ≤ 16) (small : (r : ℕ) → r < length b.arities → get_or b.arities r 0 ≤ 8) where
  pub placed-low : (C : Control) → placed C (C.start (length b.arities)) b.arities (low_rows (place_window b) (replicate 16 8)) ≡ first b C
  placed-low C = λ i. record { ctl = C.start (length b.arities); rows = rows_of-low_rows (place_window b) b.arities 16 8 few small i }

  -- no flag is set
  pub state-low : state_of b.arities (replicate 16 false) (low_rows (place_window b) (replicate 16 8)) ≡ first b flags
  unfolding state_of
  state-low = ap (λ (κ : List Bool). placed flags κ b.arities (low_rows (place_window b) (replicate 16 8))) (front-replicate false (length b.arities) 16) ∙ placed-low flags
