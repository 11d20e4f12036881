-- The ways to the whole reply: the book, the model, the query's constraint, the number of assignments.
use Prim.Native.Nat.{ℕ, ◌<◌, ◌≤◌}
use native.Mathlib.Omega.{arith}
use mathlib.Core.Path.{◌≡◌, refl, sym, ap, ap₂, ◌∙◌}
use mathlib.Core.Logic.{⊎_elim}
use mathlib.Core.Bool.{Bool, true, false}
use mathlib.Core.List.{List, []}
use lib.ListN.{get_or}
use borrow.Author.Tests.{lt-ltb, le-ltb}
use Rattle.whole.specs.Whole.{lt-or-le}
use Rattle.meaning.specs.Constraint.{holds}
use Rattle.meaning.specs.Book.{Book}
use Rattle.reply.specs.declared.Refusal.{Refusal}
use Rattle.reply.specs.Answer.{refused, refuse, says, Outcome}
use Rattle.cursor.specs.Steps.{pick, Read}
use Rattle.cursor.specs.Meaning.{tree_in}
use Rattle.cursor.specs.Sound.{IsTree}
use Rattle.book.specs.declared.Header.{Header}
use Rattle.book.specs.declared.held.Book as held
use Rattle.book.specs.Held.{meant}
use Rattle.book.specs.Read.{read}
use Rattle.book.specs.Arities.{arity-query}
use Rattle.book.specs.Meaning.{book_in}
use Rattle.book.specs.Answer.{answers}
use Rattle.book.specs.OnBook.{by-refused, by-good}
use Rattle.book.specs.Trailer.{read-trailed}
use Rattle.models.specs.Read.{Part, rules, model_in, rules_of}
use Rattle.models.specs.Cap.{cap, cap-small, cap-large}
use Rattle.models.specs.Walk.{total}
use Rattle.models.specs.Answer.{Reply, plain, no_part, weighed, judged, examine, model_answer}
use Rattle.models.specs.Passed.{IsPart, pass-moved, pass-refused}
use Rattle.parts.specs.declared.Model.{Model}
use Rattle.parts.specs.Task.{scan, scan-refused}
use Rattle.parts.proofs.Tasks.{started, read-parts, part_of}
use Rattle.model.specs.declared.Reply as code
use Rattle.model.specs.declared.Broken.{Broken}
use Rattle.model.specs.Reply.{told, said, parts_of, parts_in, walk_answer, weighed_answer, Given, Replies}
use Rattle.parts.specs.Opened.{Opened}
use Rattle.std.specs.Prelude.{Result, Err, Ok}

rules-parts : (y : Read (List Part)) → rules_of y ≡ rules (parts_of y)
unfolding rules_of parts_of
rules-parts (Ok (ps, c)) = refl
rules-parts (Err r) = refl

-- a count that stops over a million
pub few-of : (n : ℕ) {m : ℕ} → m ≡ cap n → m ≤ 1000000 → n ≤ 1000000
few-of n e l = ⊎_elim (λ h. absurd (let z : ⊥ = omega (arith, cap-large n h) in z)) (λ h. h) (lt-or-le 1000000 n)

many-of : (n : ℕ) {m : ℕ} → m ≡ cap n → 1000000 < m → 1000000 < n
many-of n e l = ⊎_elim (λ h. h) (λ h. absurd (let z : ⊥ = omega (arith, cap-small n h) in z)) (lt-or-le 1000000 n)

module _ (m : Model) where
  abbrev b : Book
  b = meant m.book

  abbrev ps : List Part
  ps = parts_in m.bytes.now b.arities

  -- where the query's constraint starts
  abbrev at : ℕ
  at = get_or m.starts m.book.header.query 0

  pub query-small : m.book.header.query < 16
  query-small = let k = (read-trailed _ _ m.book.accepted).kept in omega arith

  -- the query's constraint, over no variables
  query-part : IsPart m.bytes.now 0 at (get_or ps b.query no_part)
  unfolding book_in parts_of
  query-part =
      let good = m.book.accepted in
      let s = m.book.bytes.now in
      let h = m.book.header in
      let w = read-parts s h good m.bytes.now m.starts (started m) in
      let k = (read-trailed s h good).kept in
      rw w.1 (rw (arity-query s h good) at (part_of s h good m.bytes.now m.starts (started m) h.query k.query))

  pub query-tree : IsTree m.bytes.now 0 at
  query-tree = rw query-part.start query-part.tree

  module _ {r : Bool} (p : r ≡ holds [] (tree_in m.bytes.now 0 at)) where
    test : r ≡ holds [] (get_or ps b.query no_part).rule
    test = p ∙ ap (holds []) (rw query-part.start (sym query-part.is))

    pub weigh-true : {x : Reply} {a : Outcome} → r ≡ true → a ≡ Err (refuse 23 at) → x ≡ plain (says a) 0 → x ≡ weighed_answer m
    unfolding weighed pick says
    weigh-true y o z = z ∙ rw (o, sym test ∙ y, query-part.start)

    module _ {n : ℕ} (c : n ≡ cap (total b)) (y : r ≡ false) where
      pub weigh-many : {x : Reply} {a : Outcome} → 1000000 < n → a ≡ Err (refuse 24 0) → x ≡ plain (says a) 0 → x ≡ weighed_answer m
      unfolding weighed pick says
      weigh-many k o z = z ∙ rw (o, sym test ∙ y, lt-ltb 1000000 (total b) (many-of (total b) c k))

      weigh-rest : {x : Reply} → n ≤ 1000000 → x ≡ walk_answer m → x ≡ weighed_answer m
      unfolding weighed pick
      weigh-rest k z = z ∙ rw (sym test ∙ y, le-ltb 1000000 (total b) (few-of (total b) c k), rules-parts (model_in m.bytes.now b.arities))

      module _ (k : n ≤ 1000000) where
        pub weigh-clean : (i : ℕ) {x : Reply} → said (Ok i) ≡ walk_answer m → x ≡ plain (says (Ok 0)) i → x ≡ weighed_answer m
        unfolding said says
        weigh-clean i w z = weigh-rest k (z ∙ w)

        pub weigh-broken : (g : Broken) {a : Outcome} → said (Err g) ≡ walk_answer m → a ≡ Err (refuse 25 g.count) →
            record { answer = says a; count = g.count; clause = g.clause; values = g.values } ≡ weighed_answer m
        unfolding said says
        weigh-broken g w o = weigh-rest k (rw o w)

  -- ---- the whole reply

  reply-read : model_answer m.book.bytes.now m.bytes.now ≡ weighed_answer m
  unfolding model_answer examine judged book_in parts_of
  reply-read =
      let s = m.book.bytes.now in
      let w = pass-moved m.bytes.now b.arities (started m).passed in
      by-good s (λ n p. plain (refused n p) 0) (λ b. examine b m.bytes.now) (answers s _ (sym m.book.accepted)) refl ∙ rw w.1

  pub reply-weighed : {s t : List ℕ} (r : code.Reply) → Given s t (Ok m) → told r ≡ weighed_answer m → Replies s t r
  reply-weighed r w q = record { tells = q ∙ sym reply-read ∙ ap₂ model_answer w.0 w.1 }

module _ (s t : List ℕ) where
  -- a refused book
  pub given-book : (f : Refusal) → read s ≡ Err f → Given s t (Err f)
  unfolding model_answer
  given-book f e = by-refused s (λ n p. plain (refused n p) 0) (λ b. examine b t) (answers s _ (sym e)) refl

  -- a refused model
  refused-model : (h : Header) (f : Refusal) → read s ≡ Ok h → scan t (book_in s h).arities ≡ Err f → Given s t (Err f)
  unfolding model_answer examine judged book_in
  refused-model h f good e =
      by-good s (λ n p. plain (refused n p) 0) (λ b. examine b t) (answers s _ (sym good)) refl
      ∙ rw (pass-refused t (book_in s h).arities (scan-refused _ _ e))

  pub given-model : (b : held.Book) (x : Result Model Refusal) → b.bytes.now ≡ s → Opened b t x → Given s t x
  given-model b (Ok m) e w = (ap (λ (b : held.Book). b.bytes.now) w.0 ∙ e, w.1)
  given-model b (Err f) e w = refused-model b.header f (rw e at b.accepted) (rw e at w)

  pub reply-refused : (r : code.Reply) (f : Refusal) → Given s t (Err f) → told r ≡ plain (says (Err f)) 0 → Replies s t r
  unfolding says
  reply-refused r f w q = record { tells = q ∙ sym w }
