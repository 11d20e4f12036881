-- A task put together from an accepted book and a model that was read is that clause's, and what the code tests is whether the model is broken.
use Prim.Native.Nat.{ℕ, suc, ◌+◌, ◌<◌, ◌≤◌}
use native.Mathlib.Omega.{arith}
use mathlib.Core.Path.{◌≡◌, refl, sym, ap, ap₂, ◌∙◌}
use mathlib.Core.Logic.{◌⊎◌, inl, inr}
use mathlib.Core.Bool.{Bool, true, false, ◌&&◌}
use mathlib.Core.List.{List, [], ◌∷◌, map}
use lib.ListN.{length, get_or, take, drop, replicate, length-take, get_or-map}
use lib.Seq.{get_or-take, get_or-drop}
use lib.IntN.{ℤ, pos}
use borrow.Author.Tests.{eq-eqb, ne_eqb}
use Rattle.meaning.specs.Constraint.{truth}
use Rattle.meaning.specs.Book.{at, at_body, head, body}
use Rattle.cursor.specs.declared.Clause.{Clause}
use Rattle.cursor.specs.Steps.{pick}
use Rattle.cursor.specs.Meaning.{atom_in, body_in, tree_in, clause_in}
use Rattle.cursor.specs.Sound.{Sound, Arguments}
use Rattle.truth.specs.Front.{front-part, front-arguments, front-is-tree, front-tree}
use Rattle.book.specs.declared.Header.{Header}
use Rattle.book.specs.Read.{read}
use Rattle.book.specs.Meaning.{book_in}
use Rattle.book.specs.Trailer.{read-trailed}
use Rattle.book.specs.Arities.{relations-are, arity-is, arity-small}
use Rattle.models.specs.Read.{Part, model_in, rules_of}
use Rattle.models.specs.Walk.{step, satisfies, met, breaks}
use Rattle.models.specs.Answer.{no_part}
use Rattle.models.specs.Passed.{IsPart, parts-start, pass-moved}
use Rattle.parts.specs.declared.Half.{Half}
use Rattle.parts.specs.declared.Model.{Model}
use Rattle.parts.specs.declared.Task.{Task}
use Rattle.parts.specs.Opened.{constraints}
use Rattle.book.specs.Held.{meant}
use Rattle.parts.specs.Task.{scan-started, places_of, true_in, met_in, breaks_in, Side, SideBody, half_of, body_of, Taken, Started, rules_in}
use Rattle.book.specs.Joined.{Held, record-read, held}
use Rattle.cursor.specs.Sound.{IsTree}
use Rattle.std.specs.Prelude.{Option, Ok}

-- ---- lists

map_same : {A B : Type 0} (f g : A → B) (d : A) (l : List A) → ((j : ℕ) → j < length l → f (get_or l j d) ≡ g (get_or l j d)) → map f l ≡ map g l
map_same f g d [] h = refl
map_same f g d (x ∷ l) h = ap₂ (λ (y : _) (ys : List _). y ∷ ys) (h 0 (omega arith)) (map_same f g d l (λ j k. h (suc j) (omega arith)))

-- the values of arguments that are numbers of the first v values
places-front : (s : List ℕ) (v seat n : ℕ) (vs : List ℤ) → Arguments s v (seat + 1) n → places_of s seat n (take v vs) ≡ places_of s seat n vs
unfolding places_of
places-front s v seat n vs a = map_same _ _ 0 (take n (drop (seat + 1) s)) λ j h.
    let l : j < n = omega (arith, length-take n (drop (seat + 1) s)) in
    let e : get_or (take n (drop (seat + 1) s)) j 0 ≡ get_or s (seat + 1 + j) 0 = get_or-take n (drop (seat + 1) s) j 0 l ∙ get_or-drop (seat + 1) s j 0 in
    get_or-take v vs _ (pos 0) (rw e (a.each j l))

arguments-more : (s : List ℕ) (v m p n : ℕ) → v ≤ m → Arguments s v p n → Arguments s m p n
arguments-more s v m p n h a = record { within = a.within; each = λ j l. omega (arith, a.each j l) }

-- ---- what an accepted book lends

module _ (s : List ℕ) (h : Header) (good : read s ≡ Ok h) where
  -- ---- a relation in a model that was read

  module _ (t l : List ℕ) (st : Started t (book_in s h).arities l) where
    abbrev ns : List ℕ
    ns = (book_in s h).arities

    abbrev front : List ℕ
    front = take h.start s

    pub relations-length : length ns ≡ h.relations
    relations-length = relations-are s h good

    pub read-parts : (ps : List Part) × (model_in t ns ≡ Ok (ps, st.end))
    read-parts = pass-moved t ns st.passed

    pub part_of : (r : ℕ) → r < h.relations → IsPart t (get_or s r 0) (get_or l r 0) (get_or read-parts.0 r no_part)
    part_of r b =
        let k = (read-trailed s h good).kept in
        let len : length ns ≤ 16 = omega (arith, relations-length) in
        let p = parts-start t ns (replicate 16 0) read-parts.0 st.end read-parts.1 len r (omega (arith, relations-length)) in
        rw (← st.starts, arity-is s h good r b) at p

    rule-of : (r : ℕ) → get_or (rules_in t ns) r truth ≡ (get_or read-parts.0 r no_part).rule
    unfolding rules_of
    rule-of r = rw read-parts.1 (get_or-map (λ (p : Part). p.rule) read-parts.0 r no_part)

    half_is : (r p : ℕ) → r < h.relations → half_of s h l r p ≡ record { seat = p; places = get_or s r 0; rule = get_or l r 0 }
    unfolding half_of
    half_is r p b = rw (arity-is s h good r b)

    front-is : (r : ℕ) → r < h.relations → get_or front r 0 ≡ get_or s r 0
    front-is r b = let k = (read-trailed s h good).kept in get_or-take h.start s r 0 (omega arith)

    module _ (v r seat : ℕ) (b : r < h.relations) (a : Arguments front v (seat + 1) (get_or front r 0)) where
      read-arguments : Arguments front v (seat + 1) (get_or s r 0)
      read-arguments = rw (front-is r b) at a

      arguments : Arguments s v (seat + 1) (get_or s r 0)
      arguments = front-arguments s h.start v (seat + 1) (get_or s r 0) read-arguments

      side : (m : ℕ) → v ≤ m → Side s m t (half_of s h l r seat)
      side m z =
          let p = part_of r b in
          rw (half_is r seat b) (record { small = arity-small s h good r b; arguments = arguments-more s v m (seat + 1) (get_or s r 0) z arguments; tree = rw p.start p.tree })

      side-true : (vs : List ℤ) → true_in s t (half_of s h l r seat) vs ≡ satisfies (rules_in t ns) (at (take v vs) (atom_in front r seat))
      unfolding satisfies atom_in places_of true_in
      side-true vs =
          let p = part_of r b in
          let e : get_or (rules_in t ns) r truth ≡ tree_in t (get_or s r 0) (get_or l r 0) = rule-of r ∙ p.is ∙ ap (tree_in t (get_or s r 0)) (sym p.start) in
          rw (half_is r seat b, front-is r b, e, front-part s h.start (seat + 1) (get_or s r 0) read-arguments.within, places-front s v seat (get_or s r 0) vs arguments)

    -- ---- the task of a clause

    module _ (i : ℕ) (c : Clause) (d : Option Half) (e : Half) (w : Taken s h l i c d e) where
      -- what the code has of the clause is the meaning's clause
      pub is-held : Held s h i c
      is-held =
          let r = record-read s h good i w.below in
          let x = held s h good i w.below r.clause r.past r.reads in
          rw (w.is _ x) x

      so : Sound front h.relations c
      so = is-held.sound

      pub few : c.variables ≤ 16
      few = let z : c.variables < 17 = so.few in omega arith

      pub rule-tree : IsTree s c.variables c.rule
      rule-tree = front-is-tree s h.start c.variables c.rule so.tree

      -- a relation that is there is not 255
      some-relation : (r : ℕ) → r < h.relations → r ≡ 255 → ⊥
      some-relation r b q = let k = (read-trailed s h good).kept in omega arith

      abbrev Bodied : Type 0
      Bodied = (c.body ≡ 255) ⊎ ((c.body < h.relations) × Arguments front c.variables (c.body_at + 1) (get_or front c.body 0))

      side-some : (m : ℕ) → c.variables ≤ m → Bodied → SideBody s m t (body_of s h l c.body c.body_at)
      unfolding body_of pick
      side-some m z (inl q) = rw (eq-eqb c.body 255 q) tt
      side-some m z (inr (b, a)) = rw (ne_eqb c.body 255 (some-relation c.body b)) (side c.variables c.body c.body_at b a m z)

      pub side-body : (m : ℕ) → c.variables ≤ m → SideBody s m t d
      side-body m z = rw w.body (side-some m z so.body)

      pub side-head : (m : ℕ) → c.variables ≤ m → Side s m t e
      side-head m z = rw w.head (side c.variables c.head c.head_at so.head so.arguments m z)

      met-some : (vs : List ℤ) → Bodied → met_in s t (body_of s h l c.body c.body_at) vs ≡ met (rules_in t ns) (at_body (take c.variables vs) (body_in front c.body c.body_at))
      unfolding met_in body_of body_in met pick
      met-some vs (inl q) = rw (eq-eqb c.body 255 q)
      met-some vs (inr (b, a)) = rw (ne_eqb c.body 255 (some-relation c.body b)) (side-true c.variables c.body c.body_at b a vs)

      met-is : (vs : List ℤ) → met_in s t d vs ≡ met (rules_in t ns) (at_body (take c.variables vs) (body_in front c.body c.body_at))
      met-is vs = rw w.body (met-some vs so.body)

      head-is : (vs : List ℤ) → true_in s t e vs ≡ satisfies (rules_in t ns) (at (take c.variables vs) (atom_in front c.head c.head_at))
      head-is vs = rw w.head (side-true c.variables c.head c.head_at so.head so.arguments vs)

      both : (x y : Bool) → pick x y false ≡ x && y
      unfolding pick
      both true y = refl
      both false y = refl

      pub breaks-is : (vs : List ℤ) → breaks_in s t c d e vs ≡ breaks (book_in s h) (rules_in t ns) (step i (take c.variables vs))
      unfolding breaks_in breaks body head clause_in
      breaks-is vs = rw (is-held.is, ← (front-tree s h.start c.variables c.rule so.tree), met-is vs, head-is vs, both, both)

-- ---- the same of the code's model and task

pub started : (m : Model) → Started m.bytes.now (meant m.book).arities m.starts
started m = scan-started _ _ _ m.read

module _ (k : Task) where
  abbrev m : Model
  m = k.model

  abbrev v : ℕ
  v = k.clause.variables

  abbrev b : List ℕ
  b = m.book.bytes.now

  pub task_held : Held b m.book.header k.number k.clause
  task_held = is-held _ _ m.book.accepted _ _ (started m) _ _ _ _ k.taken

  pub task_few : v ≤ 16
  task_few = few _ _ m.book.accepted _ _ (started m) _ _ _ _ k.taken

  pub task_tree : IsTree b v k.clause.rule
  task_tree = rule-tree _ _ m.book.accepted _ _ (started m) _ _ _ _ k.taken

  pub task_body : (n : ℕ) → v ≤ n → SideBody b n m.bytes.now k.body
  task_body = side-body _ _ m.book.accepted _ _ (started m) _ _ _ _ k.taken

  pub task_head : (n : ℕ) → v ≤ n → Side b n m.bytes.now k.head
  task_head = side-head _ _ m.book.accepted _ _ (started m) _ _ _ _ k.taken

  pub task_breaks : (vs : List ℤ) → breaks_in b m.bytes.now k.clause k.body k.head vs ≡ breaks (meant m.book) (constraints m) (step k.number (take v vs))
  task_breaks = breaks-is _ _ m.book.accepted _ _ (started m) _ _ _ _ k.taken
