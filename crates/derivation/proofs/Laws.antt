-- The ways of one step of a derivation, and of what is due from a place on.
use Prim.Native.Nat.{ℕ, ◌+◌, ◌<◌, ◌≤◌}
use native.Mathlib.Nat.{le_refl}
use native.Mathlib.Omega.{arith}
use mathlib.Core.Path.{◌≡◌, refl, sym, ap, ◌∙◌}
use mathlib.Core.Bool.{Bool, true, false, not}
use mathlib.Core.List.{List}
use mathlib.Core.Option.{Option, none, some}
use lib.ListN.{length, get_or, take, drop, length-drop}
use lib.Seq.{take-length}
use lib.IntN.{ℤ}
use borrow.Author.Tests.{eq-eqb, ne_eqb}
use Rattle.meaning.specs.Book.{Book, Fact, body}
use Rattle.lists.specs.Compare.{eq_vals, same}
use Rattle.reply.specs.declared.Refusal.{Refusal}
use Rattle.reply.specs.Answer.{Answer, done, refused, ok, need, and_then, refuse, told, giving, Outcome}
use Rattle.reply.specs.Among.{Among, told-done, told-no, giving-no, giving-ok}
use Rattle.lists.specs.Instance.{step_at, judge}
use Rattle.lists.specs.Derivation.{goal, judge_step, check, check_derivation}
use Rattle.lists.specs.Among.{among-step, among-derivation}
use Rattle.lists.specs.Convert.{derivation_steps}
use Rattle.lists.specs.Due.{due, due_all, due-none}
use Rattle.lists.proofs.Due.{due-more}
use Rattle.lists.specs.Places.{count_due, count-due-all, count-due-none}
use Rattle.lists.proofs.Places.{count-due-more}
use Rattle.lists.specs.Laws.{enabled-exact}
use Rattle.book.specs.declared.Header.{Header}
use Rattle.book.specs.Meaning.{book_in}
use Rattle.book.specs.Joined.{count-is}
use Rattle.book.specs.Read.{read}
use Rattle.table.specs.declared.Seat.{Seat}
use Rattle.table.specs.declared.Row.{Row}
use Rattle.table.specs.Table.{IsRow}
use Rattle.instance.specs.Values.{number_in, values_at, Valued}
use Rattle.instance.proofs.Laws.{instance-room, instance-clause}
use Rattle.instance.proofs.Atoms.{head_at, head-there, body-none, body_at, body-there, body_below}
use Rattle.derivation.specs.declared.Step.{Step}
use Rattle.derivation.specs.Step.{step_of, step_in, fact_after, Stands}
use Rattle.derivation.specs.Answer.{counted}
use Rattle.std.specs.Prelude.{Result, Ok, Err, IfSome}
use Rattle.std.specs.Prelude as code

-- ---- two facts

other : (f g : Fact) → (f.rel ≡ g.rel → ⊥) → same (some f) (some g) ≡ false
unfolding same
other f g n = rw (ne_eqb f.rel g.rel n)

alike : {q r : ℕ} (xs ys : List ℤ) → q ≡ r → same (some (goal q xs)) (some (goal r ys)) ≡ eq_vals xs ys
unfolding same
alike {q} {r} xs ys e = rw (eq-eqb q r e)

-- a step that stands there is by one of the clauses that the header counts
pub stands-below : (s : List ℕ) (h : Header) → read s ≡ Ok h → {l : List ℤ} {x : Step} → Stands (book_in s h) l x → x.clause < h.count
stands-below s h good w = omega (arith, w.below, count-is s h good)

-- what holds of the step before, where there is one
pub some-stands : {b : Book} {l : List ℤ} (o : code.Option Step) {x : Step} → o ≡ code.Some x → IfSome o (λ y. Stands b l y) → Stands b l x
some-stands o e w = rw e at w

-- ---- the body of a step, by its clause's row r, and the head of the one before it, by its clause's row g

module _ {s : List ℕ} {h : Header} (l : List ℤ) (x : Step) {r : Row} (w : IsRow s h x.clause r) where
  abbrev body_here : Option Fact
  body_here = body (book_in s h) (step_of (book_in s h) l x)

  pub met-first : {b : Bool} → code.is_some r.body ≡ not b → b ≡ same body_here (fact_after (book_in s h) l code.None)
  unfolding same fact_after
  met-first {b} q = go b r.body refl q
    where
      go : (b : Bool) (o : code.Option Seat) → r.body ≡ o → code.is_some o ≡ not b → b ≡ same body_here none
      go true code.None e q = sym (rw (body-none w l x.since e))
      go false code.None e q = absurd (let z : ◌≡◌ {A = ℕ} 0 1 = cc in let y : ⊥ = omega arith in y)
      go true (code.Some y) e q = absurd (let z : ◌≡◌ {A = ℕ} 0 1 = cc in let y : ⊥ = omega arith in y)
      go false (code.Some y) e q = sym (rw (body_at w l x.since e))

  pub met-none : (y : Step) → r.body ≡ code.None → false ≡ same body_here (fact_after (book_in s h) l (code.Some y))
  unfolding same fact_after
  met-none y e = rw (body-none w l x.since e)

  module _ (y : Step) {g : Row} (v : IsRow s h y.clause g) where
    abbrev head_before : Option Fact
    head_before = fact_after (book_in s h) l (code.Some y)

    module _ {z : Seat} (e : r.body ≡ code.Some z) where
      full : z.relation ≡ g.head.relation → g.head.many ≡ z.many
      full c = v.head.full ∙ sym ((body_below w l x.since e).1 ∙ ap (λ (i : ℕ). get_or (book_in s h).arities i 0) c)

      pub met-same : z.relation ≡ g.head.relation → {b : Bool} → b ≡ eq_vals (values_at s l z.at x.since z.many) (values_at s l g.head.at y.since z.many) → b ≡ same body_here head_before
      unfolding fact_after
      met-same c u = u ∙ sym (rw (body_at w l x.since e, head_at v l y.since, full c) (alike _ _ c))

      pub met-other : (z.relation ≡ g.head.relation → ⊥) → false ≡ same body_here head_before
      unfolding same fact_after
      met-other c = sym (rw (body_at w l x.since e, head_at v l y.since) (other _ _ c))

      pub both-there : z.relation ≡ g.head.relation → Stands (book_in s h) l x → Stands (book_in s h) l y
          → Valued s (length l) z.at x.since z.many × Valued s (length l) g.head.at y.since z.many
      both-there c p q = (body-there w l x.since e p.room, rw (← full c) (head-there v l y.since q.room))

-- ---- the goal

module _ (s : List ℕ) (h : Header) (l : List ℤ) (r : ℕ) (vs : List ℤ) where
  pub goal-none : false ≡ same (fact_after (book_in s h) l code.None) (some (goal r vs))
  unfolding same fact_after
  goal-none = refl

  module _ (y : Step) {g : Row} (v : IsRow s h y.clause g) where
    abbrev last_head : Option Fact
    last_head = fact_after (book_in s h) l (code.Some y)

    pub goal-other : (g.head.relation ≡ r → ⊥) → false ≡ same last_head (some (goal r vs))
    unfolding fact_after
    goal-other c = sym (rw (head_at v l y.since) (other _ _ c))

    many : g.head.relation ≡ r → length vs ≡ get_or (book_in s h).arities r 0 → g.head.many ≡ length vs
    many c a = v.head.full ∙ ap (λ (i : ℕ). get_or (book_in s h).arities i 0) c ∙ sym a

    pub goal-same : {x : Bool} → g.head.relation ≡ r → length vs ≡ get_or (book_in s h).arities r 0
        → x ≡ eq_vals (values_at s l g.head.at y.since (length vs)) (take (length vs) vs) → x ≡ same last_head (some (goal r vs))
    unfolding fact_after
    goal-same c a u = u ∙ ap (eq_vals _) (take-length vs) ∙ sym (rw (head_at v l y.since, many c a) (alike _ _ c))

    pub goal-there : g.head.relation ≡ r → length vs ≡ get_or (book_in s h).arities r 0 → Stands (book_in s h) l y
        → Valued s (length l) g.head.at y.since (length vs) × (length vs ≤ length vs)
    goal-there c a x = (rw (← many c a) (head-there v l y.since x.room), le_refl _)

-- ---- the step that begins at place i, by clause k

module _ (s : List ℕ) (h : Header) (good : read s ≡ Ok h) (l : List ℤ) (i : ℕ) {x : Outcome} (e : x ≡ giving (judge (book_in s h) (number_in s h l i) 0 (drop (i + 1) l) i) (number_in s h l i))
    {k : ℕ} (z : x ≡ Ok k) where
  pub step-stands : i < length l → Stands (book_in s h) l (record { clause = k; since = i + 1 })
  step-stands there =
      let (b, r) = instance-room s h good l i 0 e z there in
      let same = instance-clause s h good l i 0 e z in
      record { below = omega (arith, rw same at b, count-is s h good); room = omega (arith, rw same at r) }

  pub step-same : record { clause = k; since = i + 1 } ≡ step_in s h l i
  step-same = ap (λ (n : ℕ). record { clause = n; since = i + 1 }) (sym (instance-clause s h good l i 0 e z))

  pub step-met : (o : Option Fact) {r : Bool} → r ≡ same (body (book_in s h) (step_at (book_in s h) k (drop (i + 1) l))) o
      → r ≡ same (body (book_in s h) (step_at (book_in s h) (number_in s h l i) (drop (i + 1) l))) o
  step-met o q = rw (instance-clause s h good l i 0 e z) q

-- ---- what is due from place i on, where o is the fact just before, c is how many steps were taken, and a is the answer due in all

-- what is due here is what was due in all, and so are the steps; the step before stands there in full
pub record Going (s : List ℕ) (h : Header) (f : Fact) (l : List ℤ) (i : ℕ) (last : code.Option Step) (c : ℕ) : Type 0 where
  pub inside : i ≤ length l
  pub same-due : due (book_in s h) f l i (fact_after (book_in s h) l last) ≡ check (book_in s h) f l
  pub same-steps : c + count_due (book_in s h) l i ≡ length (derivation_steps (book_in s h) l)
  pub few : c ≤ i
  pub stands : IfSome last (λ x. Stands (book_in s h) l x)

module _ (s : List ℕ) (h : Header) (good : read s ≡ Ok h) (f : Fact) (l : List ℤ) where
  abbrev the_book : Book
  the_book = book_in s h

  pub going_start : Going s h f l 0 code.None 0
  unfolding fact_after
  going_start = record {
    inside = omega arith;
    same-due = sym (due_all the_book f l);
    same-steps = omega (arith, count-due-all the_book l);
    few = omega arith;
    stands = tt;
  }

  module _ {i c : ℕ} {last : code.Option Step} (g : Going s h f l i last c) where
    abbrev o : Option Fact
    o = fact_after the_book l last

    pub going_done : {r : Bool} {x : Outcome} → length l ≤ i → r ≡ same o (some f) → r ≡ true → x ≡ Ok c → x ≡ told (counted (check the_book f l) (length (derivation_steps the_book l)))
    unfolding told counted need
    going_done b q e z =
        let n : count_due the_book l i ≡ 0 = count-due-none the_book l i b in
        let m : c ≡ length (derivation_steps the_book l) = omega (arith, g.same-steps) in
        rw (← g.same-due, due-none the_book f l i o b, sym q ∙ e, ← m) z

    pub going-missed : {r : Bool} {x : Outcome} → length l ≤ i → r ≡ same o (some f) → r ≡ false → x ≡ Err (refuse 17 (length l))
        → x ≡ told (counted (check the_book f l) (length (derivation_steps the_book l)))
    unfolding told counted need
    going-missed b q e z =
        let m : i ≡ length l = omega (arith, g.inside) in
        rw (← g.same-due, due-none the_book f l i o b, sym q ∙ e, m) z

    module _ (there : i < length l) {y : Result Step Refusal} (e : y ≡ giving (judge_step the_book (number_in s h l i) (drop (i + 1) l) i o) (step_in s h l i)) where
      pub going-stop : {v : Refusal} {x : Outcome} → y ≡ Err v → x ≡ Err v → x ≡ told (counted (check the_book f l) (length (derivation_steps the_book l)))
      unfolding told counted and_then
      going-stop {v} z q = rw (← g.same-due, due-more the_book f l i o there, giving-no _ _ v (sym e ∙ z)) q

      module _ {now_last : Step} (z : y ≡ Ok now_last) where
        given : (judge_step the_book (number_in s h l i) (drop (i + 1) l) i o ≡ ok) × (step_in s h l i ≡ now_last)
        given = giving-ok _ _ (among-step _ _ _ _ _) (sym e ∙ z)

        step_ok : judge_step the_book (number_in s h l i) (drop (i + 1) l) i o ≡ ok
        step_ok = given.0

        here : number_in s h l i ≡ now_last.clause
        here = ap (λ (x : Step). x.clause) given.1

        pub going-since : i + 1 ≡ now_last.since
        going-since = ap (λ (x : Step). x.since) given.1

        going-stands : Stands the_book l now_last
        unfolding judge_step
        going-stands =
            let x = (enabled-exact the_book (number_in s h l i) 0 (drop (i + 1) l) i _).0 step_ok in
            record { below = rw here at x.0.there; room = omega (arith, rw here at x.1, going-since, length-drop (i + 1) l) }

        pub going-below : now_last.clause < h.count
        going-below = omega (arith, going-stands.below, count-is s h good)

        pub going_on : {r : Row} → IsRow s h now_last.clause r → Going s h f l (now_last.since + r.variables) (code.Some now_last) (c + 1)
        unfolding and_then fact_after
        going_on w = record {
          inside = omega (arith, going-stands.room, w.vars);
          same-due = rw (← going-since, ← w.vars) (sym (rw (step_ok, here) at (due-more the_book f l i o there)) ∙ g.same-due);
          same-steps = omega (arith, rw (here, w.vars, going-since) at (count-due-more the_book l i there), g.same-steps);
          few = omega (arith, g.few, going-since);
          stands = going-stands;
        }

-- ---- one part of the answer after another

module _ (a b : Answer) (n : ℕ) {x y : Outcome} where
  pub counted_stop : {g : Refusal} → y ≡ told a → y ≡ Err g → x ≡ Err g → x ≡ told (counted (and_then a b) n)
  unfolding told and_then counted
  counted_stop {g} p q e = rw (told-no a g (sym p ∙ q)) e

  pub counted-on : {m : ℕ} → y ≡ told a → y ≡ Ok m → x ≡ told (counted b n) → x ≡ told (counted (and_then a b) n)
  unfolding and_then
  counted-on p q e = rw (told-done a (sym p ∙ q)) e

-- ---- the check's own answer has no steps in it

module _ (a : Answer) (n : ℕ) {x y : Outcome} where
  pub plain-stop : {g : Refusal} → y ≡ told (counted a n) → y ≡ Err g → x ≡ Err g → x ≡ told a
  unfolding told counted
  plain-stop {g} p q e = go a (sym p ∙ q)
    where
      go : (a : Answer) → told (counted a n) ≡ Err g → x ≡ told a
      go (done m) z = absurd (let u : ◌≡◌ {A = ℕ} 0 1 = cc in let v : ⊥ = omega arith in v)
      go (refused m i) z = e ∙ sym z

  plain_done : {ns : List ℕ} {m : ℕ} → Among ns a → y ≡ told (counted a n) → y ≡ Ok m → x ≡ Ok 0 → x ≡ told a
  unfolding told counted
  plain_done {ns} {m} w p q e = go a w (sym p ∙ q)
    where
      go : (a : Answer) → Among ns a → told (counted a n) ≡ Ok m → x ≡ told a
      go (done i) v z = e ∙ sym (ap Ok (v.plain refl))
      go (refused i j) v z = absurd (let u : ◌≡◌ {A = ℕ} 0 1 = cc in let v : ⊥ = omega arith in v)

pub check_done : (b : Book) (r : ℕ) (vs l : List ℤ) (n : ℕ) {x y : Outcome} {m : ℕ} → y ≡ told (counted (check_derivation b r vs l) n) → y ≡ Ok m → x ≡ Ok 0 → x ≡ told (check_derivation b r vs l)
check_done b r vs l n p q e = plain_done (check_derivation b r vs l) n (among-derivation b r vs l) p q e
