-- What a record of an accepted book puts into its row.
use Prim.Native.Nat.{ℕ, zero, suc, ◌+◌, ◌<◌, ◌≤◌}
use native.Mathlib.Omega.{arith}
use mathlib.Core.Path.{◌≡◌, refl, sym, ap, ◌∙◌}
use mathlib.Core.Logic.{◌⊎◌, inl, inr}
use mathlib.Core.List.{List, [], ◌∷◌}
use lib.ListN.{length, get_or, take, drop, set}
use lib.Seq.{get_or-take, get_or-set_same, get_or-set_other, length-take-le, take-take}
use lib.Dec.{eqb}
use mathlib.Core.Bool.{Bool, true, false}
use borrow.Author.Tests.{eqb-true, eqb-false, eq-eqb, ne_eqb}
use Rattle.meaning.specs.Book as meant
use Rattle.cursor.specs.Steps.{pick}
use Rattle.cursor.specs.declared.Clause.{Clause}
use Rattle.cursor.specs.Meaning.{atom_in, body_in, clause_in}
use Rattle.cursor.specs.Sound.{Arguments, tree-part}
use Rattle.truth.specs.Front.{front-is-tree, front-tree}
use Rattle.book.specs.declared.Header.{Header}
use Rattle.book.specs.Read.{read}
use Rattle.book.specs.Joined.{Held}
use Rattle.book.specs.Trailer.{read-trailed}
use Rattle.book.specs.Arities.{arity-is, arity-small}
use Rattle.std.specs.Prelude as code
use Rattle.table.specs.declared.Row.{Row}
use Rattle.table.specs.Table.{seat_of, body_of, row_of, no_row, Fits, Seated, SeatedBody, IsRow}
use Rattle.std.specs.Prelude.{Ok}

-- a part that lies in the front of a list
part-front : (s : List ℕ) (m p n : ℕ) → p + n ≤ m → take n (drop p (take m s)) ≡ take n (drop p s)
part-front s m zero n h = take-take n m s (omega arith)
part-front [] zero (suc p) n h = refl
part-front [] (suc m) (suc p) n h = refl
part-front (x ∷ s) zero (suc p) n h = absurd (let z : ⊥ = omega arith in z)
part-front (x ∷ s) (suc m) (suc p) n h = part-front s m p n (omega arith)

module _ (s : List ℕ) (h : Header) (r p : ℕ) where
  pub body-none : r ≡ 255 → body_of s h r p ≡ code.None
  unfolding body_of pick
  body-none n = rw (eq-eqb r 255 n)

  pub body-some : (r ≡ 255 → ⊥) → body_of s h r p ≡ code.Some (seat_of s h r p)
  unfolding body_of pick
  body-some n = rw (ne_eqb r 255 n)

module _ (s : List ℕ) (h : Header) (good : read s ≡ Ok h) (k : ℕ) (c : Clause) (w : Held s h k c) where
  abbrev f : List ℕ
  f = take h.start s

  long : length f ≡ h.start
  long = let t = (read-trailed s h good).kept in length-take-le h.start s (omega arith)

  -- a relation that is there is not 255
  some-relation : (r : ℕ) → r < h.relations → r ≡ 255 → ⊥
  some-relation r b e = let t = (read-trailed s h good).kept in omega arith

  -- arguments before the index stand in the whole book too
  arguments-whole : (v p n : ℕ) → Arguments f v p n → Arguments s v p n
  arguments-whole v p n a = let t = (read-trailed s h good).kept in record {
    within = omega (arith, a.within, long);
    each = λ j i. rw (get_or-take h.start s (p + j) 0 (omega (arith, a.within, long))) at (a.each j i);
  }

  take_whole : (p n : ℕ) → p + n ≤ length f → take n (drop p f) ≡ take n (drop p s)
  take_whole p n i = part-front s h.start p n (omega (arith, long))

  arity-front : (r : ℕ) → r < h.relations → get_or f r 0 ≡ get_or s r 0
  arity-front r b = let t = (read-trailed s h good).kept in get_or-take h.start s r 0 (omega arith)

  seated : (r p : ℕ) → r < h.relations → Arguments f c.variables (p + 1) (get_or f r 0) → Seated s h c.variables (atom_in f r p) (seat_of s h r p)
  unfolding atom_in seat_of
  seated r p b a =
      let e = arity-front r b ∙ sym (arity-is s h good r b) in
      rw (← e) (record {
        is = refl;
        below = b;
        full = e;
        few = omega (arith, arity-front r b, arity-small s h good r b);
        args = take_whole (p + 1) (get_or f r 0) a.within;
        arguments = arguments-whole _ _ _ a;
      })

  -- the row says what the meaning's clause is
  body-says : (c.body ≡ 255) ⊎ ((c.body < h.relations) × Arguments f c.variables (c.body_at + 1) (get_or f c.body 0)) →
      SeatedBody s h c.variables (body_in f c.body c.body_at) (body_of s h c.body c.body_at)
  unfolding SeatedBody body_in body_of pick
  body-says (inl e) = rw (eq-eqb c.body 255 e) tt
  body-says (inr (b, a)) = rw (ne_eqb c.body 255 (some-relation c.body b)) (seated c.body c.body_at b a)

  pub row-says : IsRow s h k (row_of s h c)
  unfolding row_of clause_in
  row-says =
      let x = w.sound in
      let e = w.is in
      record {
        vars = ap (λ (y : meant.Clause). y.vars) e;
        few = omega (arith, x.few);
        body = rw e (body-says x.body);
        head = rw e (seated c.head c.head_at x.head x.arguments);
        tree = front-is-tree s h.start c.variables c.rule x.tree;
        rule = ap (λ (y : meant.Clause). y.rule) e ∙ front-tree s h.start c.variables c.rule x.tree;
      }

  body-fits : (c.body ≡ 255) ⊎ ((c.body < h.relations) × Arguments f c.variables (c.body_at + 1) (get_or f c.body 0))
      → (c.body ≡ 255 → ⊥) → (c.body_at < 60000) × (c.body < h.relations)
  body-fits (inl e) n = absurd (n e)
  body-fits (inr (b, a)) n = let t = read-trailed s h good in let y = t.kept in (omega (arith, a.within, long, t.short), b)

  pub row_fits : Fits h c
  row_fits =
      let x = w.sound in
      let t = read-trailed s h good in
      let y = t.kept in
      let r = tree-part f c.variables c.rule x.tree in
      record {
        body = body-fits x.body;
        head = (omega (arith, x.place, long, t.short), x.head);
        rule = omega (arith, long, t.short);
      }

-- ---- the table, one row more

pub rows_more : (P : ℕ → Row → Type 0) (t : List Row) (k : ℕ) {r : Row} → k < length t → P k r
    → ((j : ℕ) → j < k → P j (get_or t j no_row)) → (j : ℕ) → j < k + 1 → P j (get_or (set t k r) j no_row)
rows_more P t k {r} there w rows j b = go (eqb j k) refl
  where
    go : (x : Bool) → eqb j k ≡ x → P j (get_or (set t k r) j no_row)
    go true q = let e : j ≡ k = eqb-true j k q in rw (e, get_or-set_same t k r no_row there) w
    go false q = let n = eqb-false j k q in let m : j < k = omega (arith, n) in rw (get_or-set_other t k j r no_row n) (rows j m)
