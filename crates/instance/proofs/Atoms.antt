-- The facts of a step by where they stand: an atom's values are those of its arguments.
use Prim.Native.Nat.{ℕ, suc, ◌+◌, ◌<◌, ◌≤◌}
use native.Mathlib.Omega.{arith}
use mathlib.Core.Path.{◌≡◌, refl, ap, ap₂, ◌∙◌}
use mathlib.Core.List.{List, [], ◌∷◌, map}
use mathlib.Core.Option.{Option, none, some}
use lib.ListN.{length, get_or, take, drop, length-take}
use lib.Seq.{get_or-take, get_or-drop}
use lib.IntN.{ℤ, pos}
use Rattle.meaning.specs.Book.{Atom, at, head, body}
use Rattle.lists.specs.Instance.{clause_at, step_at}
use Rattle.lists.specs.Derivation.{goal}
use Rattle.book.specs.declared.Header.{Header}
use Rattle.book.specs.Meaning.{book_in}
use Rattle.std.specs.Prelude as code
use Rattle.table.specs.declared.Seat.{Seat}
use Rattle.table.specs.declared.Row.{Row}
use Rattle.table.specs.Table.{Seated, SeatedBody, IsRow}
use Rattle.instance.specs.Values.{values_at, Valued}

map_same : (f g : ℕ → ℤ) (xs : List ℕ) → ((j : ℕ) → j < length xs → f (get_or xs j 0) ≡ g (get_or xs j 0)) → map f xs ≡ map g xs
map_same f g [] h = refl
map_same f g (x ∷ xs) h = ap₂ {C = List ℤ} (λ y ys. y ∷ ys) (h 0 (omega arith)) (map_same f g xs (λ j k. h (suc j) (omega arith)))

module _ {s : List ℕ} {h : Header} {v : ℕ} {a : Atom} {x : Seat} (w : Seated s h v a x) (l : List ℤ) (j : ℕ) where
  -- an atom at the values that stand from place j on
  pub atom-at : at (take v (drop j l)) a ≡ goal x.relation (values_at s l x.at j x.many)
  unfolding values_at
  atom-at =
      let e : map (λ (i : ℕ). get_or (take v (drop j l)) i (pos 0)) a.args ≡ map (λ (i : ℕ). get_or l (j + i) (pos 0)) (take x.many (drop x.at s)) =
      rw w.args (map_same _ _ (take x.many (drop x.at s)) λ i k.
      let n : i < x.many = omega (arith, length-take x.many (drop x.at s)) in
      let e : get_or (take x.many (drop x.at s)) i 0 ≡ get_or s (x.at + i) 0 = get_or-take x.many (drop x.at s) i 0 n ∙ get_or-drop x.at s i 0 in
      get_or-take v (drop j l) _ (pos 0) (rw e (w.arguments.each i n)) ∙ get_or-drop j l _ (pos 0)) in
      λ i. record { rel = w.is i; vals = e i }

  pub atom-there : j + v ≤ length l → Valued s (length l) x.at j x.many
  atom-there b = record { there = w.arguments.within; each = λ i k. omega (arith, w.arguments.each i k) }

-- ---- of clause k, whose row is r

module _ {s : List ℕ} {h : Header} {k : ℕ} {r : Row} (w : IsRow s h k r) (l : List ℤ) (j : ℕ) where
  -- the head, and where its values stand
  pub head_at : head (book_in s h) (step_at (book_in s h) k (drop j l)) ≡ goal r.head.relation (values_at s l r.head.at j r.head.many)
  unfolding head
  head_at = rw w.vars (atom-at w.head l j)

  pub head-there : j + (clause_at (book_in s h) k).vars ≤ length l → Valued s (length l) r.head.at j r.head.many
  head-there b = atom-there w.head l j (omega (arith, w.vars))

  -- the body: none, or where its values stand
  no-body : (o : Option Atom) → SeatedBody s h r.variables o code.None → o ≡ none
  unfolding SeatedBody
  no-body none e = refl
  no-body (some a) e = absurd e

  some-body : {x : Seat} (o : Option Atom) → SeatedBody s h r.variables o (code.Some x) → (a : Atom) × (o ≡ some a) × Seated s h r.variables a x
  unfolding SeatedBody
  some-body none e = absurd e
  some-body (some a) e = (a, refl, e)

  pub body-none : r.body ≡ code.None → body (book_in s h) (step_at (book_in s h) k (drop j l)) ≡ none
  unfolding body
  body-none e = rw (no-body _ (rw e at w.body))

  module _ {x : Seat} (e : r.body ≡ code.Some x) where
    body-is : (a : Atom) × ((clause_at (book_in s h) k).body ≡ some a) × Seated s h r.variables a x
    body-is = some-body _ (rw e at w.body)

    pub body_at : body (book_in s h) (step_at (book_in s h) k (drop j l)) ≡ some (goal x.relation (values_at s l x.at j x.many))
    unfolding body
    body_at = let (a, q, y) = body-is in rw (q, w.vars) (ap some (atom-at y l j))

    pub body-there : j + (clause_at (book_in s h) k).vars ≤ length l → Valued s (length l) x.at j x.many
    body-there b = let (a, q, y) = body-is in atom-there y l j (omega (arith, w.vars))

    -- its relation and arity
    pub body_below : (x.relation < h.relations) × (x.many ≡ get_or (book_in s h).arities x.relation 0)
    body_below = let (a, q, y) = body-is in (y.below, y.full)
