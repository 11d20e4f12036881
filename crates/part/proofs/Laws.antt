-- Laws of a clause's part: what is said out of the book's bytes is what the meaning's clause says.
use mathlib.Core.Path.{◌≡◌, sym, ap, ◌∙◌}
use mathlib.Core.Bool.{Bool, false}
use mathlib.Core.Logic.{◌⊎◌, inl, inr}
use mathlib.Core.List.{List}
use Prim.Native.Nat.{ℕ, ◌+◌, ◌-◌, ◌<◌}
use native.Mathlib.Omega.{arith}
use lib.ListN.{length, get_or, take, drop, length-take}
use lib.Seq.{get_or-take}
use borrow.Author.Tests.{eq-eqb, ne_eqb}
use Rattle.meaning.specs.Book as meanings
use Rattle.meaning.specs.Book.{none_such, variable_window}
use Rattle.cursor.specs.declared.Clause.{Clause}
use Rattle.cursor.specs.Steps.{pick}
use Rattle.cursor.specs.Sound.{Arguments, IsTree}
use Rattle.cursor.specs.Meaning.{atom_in, body_in, clause_in}
use Rattle.truth.specs.Front.{front-part, front-is-tree, front-tree}
use Rattle.book.specs.declared.held.Book.{Book}
use Rattle.book.specs.Held.{meant}
use Rattle.book.specs.Joined.{Held}
use Rattle.book.specs.Trailer.{read-trailed}
use Rattle.book.specs.Arities.{arity-is}
use Rattle.sexp.specs.Sexp.{Sexps, end, ◌&◌, each, over, onto}
use Rattle.put.specs.declared.Printer.{Printer}
use Rattle.put.specs.Shows.{Lists}
use Rattle.put.proofs.Laws.{relist, wrote_none}
use Rattle.script.specs.Lines.{argument, atom_items, body_items, frame, frame_but, clause_part, clause_part_of}
use Rattle.part.specs.Part.{Stands, atom_of, body_of, clause_of}

-- what is said of relation r and its arity
unfoldable pub by_arity : Book → (ℕ → ℕ → Sexps) → ℕ → Sexps
by_arity b f r = f r (get_or (meant b).arities r 0)

-- ---- an atom

-- argument i of those that stand in xs
unfoldable pub argument_in : Bool → ℕ → ℕ → List ℕ → ℕ → Sexps
argument_in after k r xs i = argument after k r i (get_or xs i 0)

-- the slice that the code goes over, which begins at a and has m bytes, holds the n arguments
pub arguments-are : (after : Bool) (k : ℕ) (s : List ℕ) (r a m n : ℕ) → m ≡ n →
    each (length (take (a + m - a) (drop a s))) (argument_in after k r (take (a + m - a) (drop a s))) ≡ over 0 (take n (drop a s)) (argument after k r)
unfolding argument_in
arguments-are after k s r a m n h = rw (let e : a + m - a ≡ n = omega (arith, h) in e)

-- ---- the body

module _ (k : ℕ) (b : Book) (r at : ℕ) where
  pub body-none : {p : Printer} → r ≡ 255 → Lists p p (body_items k (body_of b r at))
  unfolding body_of pick body_items onto
  body-none e = rw (eq-eqb r 255 e) (record { text = wrote_none })

  pub body-some : {p q : Printer} → (r ≡ 255 → ⊥) → Lists p q (atom_items false k (atom_of b r at)) → Lists p q (body_items k (body_of b r at))
  unfolding body_of pick body_items
  body-some n u = rw (ne_eqb r 255 n) u

-- ---- frames

module _ (h r m : ℕ) where
  pub but_same : {p : Printer} → r ≡ h → Lists p p (frame_but h r m)
  unfolding frame_but onto
  but_same e = rw (eq-eqb r h e) (record { text = wrote_none })

  pub but-other : {p q : Printer} → (r ≡ h → ⊥) → Lists p q (frame r m) → Lists p q (frame_but h r m)
  unfolding frame_but
  but-other n u = rw (ne_eqb r h n) u

-- ---- a record that was read: what stands before the index stands in the whole book

module _ (b : Book) (k : ℕ) (l : Clause) (w : Held b.bytes.now b.header k l) where
  abbrev front : List ℕ
  front = take b.header.start b.bytes.now

  module _ (r p : ℕ) (low : r < b.header.relations) (a : Arguments front l.variables (p + 1) (get_or front r 0)) where
    arity-front : get_or front r 0 ≡ get_or (meant b).arities r 0
    arity-front =
        let t = (read-trailed _ _ b.accepted).kept in
        get_or-take b.header.start b.bytes.now r 0 (omega arith) ∙ sym (arity-is _ _ b.accepted r low)

    atom-stands : Stands b r p
    atom-stands = record { below = low; within = omega (arith, a.within, arity-front, length-take b.header.start b.bytes.now) }

    atom-is : atom_in front r p ≡ atom_of b r p
    unfolding atom_in atom_of
    atom-is = rw (← arity-front, front-part b.bytes.now b.header.start (p + 1) (get_or front r 0) a.within)

  abbrev Body : Type 0
  Body = (l.body ≡ 255) ⊎ ((l.body < b.header.relations) × Arguments front l.variables (l.body_at + 1) (get_or front l.body 0))

  body-stands : Body → (l.body ≡ 255) ⊎ Stands b l.body l.body_at
  body-stands (inl e) = inl e
  body-stands (inr (low, a)) = inr (atom-stands l.body l.body_at low a)

  body_is : Body → body_in front l.body l.body_at ≡ body_of b l.body l.body_at
  unfolding body_in body_of pick
  body_is (inl e) = rw (eq-eqb l.body 255 e)
  body_is (inr (low, a)) = rw (atom-is l.body l.body_at low a)

  pub body-there : (l.body ≡ 255) ⊎ Stands b l.body l.body_at
  body-there = body-stands w.sound.body

  pub head-there : Stands b l.head l.head_at
  head-there = atom-stands l.head l.head_at w.sound.head w.sound.arguments

  pub rule-there : IsTree b.bytes.now l.variables l.rule
  rule-there = front-is-tree b.bytes.now b.header.start l.variables l.rule w.sound.tree

  clause-is : get_or (meant b).clauses k none_such ≡ clause_of b l
  unfolding clause_in clause_of
  clause-is =
      let x = w.sound in
      rw (w.is, body_is x.body, atom-is l.head l.head_at x.head x.arguments, front-tree b.bytes.now b.header.start l.variables l.rule x.tree)

  pub part_held : {p q : Printer} → Lists p q (clause_part (variable_window (meant b) (get_or (meant b).clauses k none_such)) (meant b).arities k (clause_of b l) & end) →
      Lists p q (clause_part_of (meant b) k (get_or (meant b).clauses k none_such))
  unfolding clause_part_of
  part_held u =
      relist (ap (λ (c : meanings.Clause). clause_part (variable_window (meant b) (get_or (meant b).clauses k none_such)) (meant b).arities k c & end) (sym clause-is)) u
