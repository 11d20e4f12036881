-- The laws of the walk over a derivation that writes its trace.
use mathlib.Core.Path.{◌≡◌, sym, ap, ◌∙◌}
use mathlib.Core.Bool.{Bool, true, false}
use mathlib.Core.List.{List, ◌++◌}
use Prim.Native.Nat.{ℕ, ◌+◌, ◌-◌, ◌≤◌, ◌<◌}
use native.Mathlib.Omega.{arith}
use lib.ListN.{length, get_or, set, take, drop, replicate}
use lib.IntN.{ℤ}
use Rattle.meaning.specs.Book.{Book, Fact, Instance, place_window, head}
use Rattle.meaning.specs.State.{Control, State, flags, write, low_rows, first}
use Rattle.lists.specs.Trace.{state_numbers}
use Rattle.lists.specs.Instance.{clause_at, step_at}
use Rattle.lists.specs.Convert.{as_trace}
use Rattle.lists.specs.Places.{clause_here, step_here, start, start_first, start-next, numbers-here, trace_due, trace-due-all, trace-due-none}
use Rattle.lists.proofs.Places.{trace-due-more}
use Rattle.book.specs.declared.Header.{Header}
use Rattle.book.specs.Read.{read}
use Rattle.book.specs.Meaning.{book_in}
use Rattle.table.specs.declared.Row.{Row}
use Rattle.table.specs.Table.{IsRow}
use Rattle.instance.specs.Values.{number_in}
use Rattle.instance.proofs.Laws.{values_length}
use Rattle.instance.proofs.Atoms.{head_at, head-there}
use Rattle.state.specs.declared.State as code
use Rattle.state.specs.State.{state_of, held, row_put}
use Rattle.state.specs.Laws.{state-put}
use Rattle.state.proofs.Shape.{relations-few, arities-few, arities-small}
use Rattle.forth.specs.declared.Writer.{Writer}
use Rattle.forth.specs.Puts.{HasRoom, Puts}
use Rattle.steps.specs.Walk.{Here, Walk}
use Rattle.steps.proofs.Places.{here-at}
use Rattle.forth.proofs.Laws.{state-low}
use Rattle.forth.proofs.Left.{first-fits, second-fits, Left, left-first, next-fits, left-more, left-none}
use Rattle.std.specs.Prelude.{Ok}

-- ---- the walk: from the writer p, behind the first state, to q, where the step at i is the next, and σ the state there

pub record Going (b : Book) (C : Control) (l : List ℤ) (p q : Writer) (σ : State C) (i : ℕ) : Type 0 where
  pub number : ℕ
  pub place : i ≡ start b 0 l 0 number
  pub left : Left p q (trace_due b C l 0 (first b C)) (trace_due b C l i σ)

module _ {b : Book} {C : Control} {l : List ℤ} {p q : Writer} where
  pub going-first : HasRoom p (as_trace b C l) → Puts p q (state_numbers b C (first b C)) → Going b C l q q (first b C) 0
  going-first f u = record { number = 0; place = sym (start_first b 0 l 0); left = left-first (second-fits u (rw (trace-due-all b C l) at f)) }

  pub going-all : {σ : State C} {i : ℕ} → Going b C l p q σ i → length l ≤ i → Puts p q (trace_due b C l 0 (first b C))
  going-all {σ} {i} w k = left-none w.left (trace-due-none b C l i σ k)

pub first-state-fits : (b : Book) (C : Control) (l : List ℤ) {p : Writer} → HasRoom p (as_trace b C l) → HasRoom p (state_numbers b C (first b C))
first-state-fits b C l f = first-fits _ (rw (trace-due-all b C l) at f)

-- ---- states of flags

pub low-first : (s : List ℕ) (h : Header) → read s ≡ Ok h → (σ : code.State) → (σ.flags ≡ replicate 16 false) × (σ.rows ≡ low_rows (place_window (book_in s h)) (replicate 16 8))
    → held (book_in s h) σ ≡ first (book_in s h) flags
low-first s h good σ (p, q) = rw (p, q) (state-low (book_in s h) (arities-few s h good) (arities-small s h good))

-- a step's head is put in: its flag is set and its values stand in its row
module _ (s : List ℕ) (h : Header) (good : read s ≡ Ok h) (l : List ℤ) (j : ℕ) {k : ℕ} {r : Row} (w : IsRow s h k r) (room : j + (clause_at (book_in s h) k).vars ≤ length l)
    (fs : List Bool) (vs : List (List ℤ)) (few : length fs ≡ 16) (many : length vs ≡ 16) where
  abbrev fact : Fact
  fact = head (book_in s h) (step_at (book_in s h) k (drop j l))

  own : fact.rel ≡ r.head.relation
  own = ap (λ (f : Fact). f.rel) (head_at w l j)

  pub head-set : state_of (book_in s h).arities (set fs fact.rel true) (row_put fact vs) ≡ write flags fact (state_of (book_in s h).arities fs vs)
  head-set =
      let small = relations-few s h good in
      let below = w.head.below in
      let full : length fact.vals ≡ get_or (book_in s h).arities fact.rel 0 = rw (head_at w l j) (values_length l (head-there w l j room) ∙ w.head.full) in
      state-put (book_in s h).arities fs vs fact full (omega (arith, own)) (omega (arith, own))

-- ---- one turn: k is the clause of the step at i, and its head was put into the state σ

module _ (s : List ℕ) (h : Header) (good : read s ≡ Ok h) {l : List ℤ} (walk : Walk s h l 0 0) (σ : code.State) {p q : Writer} {i : ℕ}
    (w : Going (book_in s h) flags l p q (held (book_in s h) σ) i) (inside : i < length l) where
  pub step-here : Here s h l 0 i
  step-here = here-at s h l 0 walk w.number i w.place inside

  one : Instance (book_in s h) (step_here (book_in s h) l i)
  one = rw w.place (walk.steps w.number (rw w.place at inside)).0

  module _ {k : ℕ} (x : k ≡ number_in s h l i) where
    same : number_in s h l i ≡ k
    same = sym x

    pub step-below : k < h.count
    step-below = rw same at step-here.there

    pub step_room : i + 1 + (clause_at (book_in s h) k).vars ≤ length l
    step_room = rw (← same) (omega (arith, step-here.whole))

    abbrev put_in : Fact
    put_in = head (book_in s h) (step_at (book_in s h) k (drop (i + 1) l))

    module _ {r : Row} (v : IsRow s h k r) where
      vars : r.variables ≡ (clause_here (book_in s h) l i).vars
      vars = let y = rw x at v in sym y.vars

      pub numbers-room : i + (1 + r.variables) ≤ length l
      numbers-room = omega (arith, vars, step-here.whole)

      -- its numbers
      abbrev taken : List ℤ
      taken = take (i + (1 + r.variables) - i) (drop i l)

      module _ (few : length σ.flags ≡ 16) (many : length σ.rows ≡ 16) (σ' : code.State) (f : σ'.flags ≡ set σ.flags put_in.rel true) (u : σ'.rows ≡ row_put put_in σ.rows) where
        abbrev state : List ℤ
        state = state_numbers (book_in s h) flags (held (book_in s h) σ')

        next : held (book_in s h) σ' ≡ write flags (head (book_in s h) (step_here (book_in s h) l i)) (held (book_in s h) σ)
        next = rw (same, f, u) (head-set s h good l (i + 1) v step_room σ.flags σ.rows few many)

        due-step : trace_due (book_in s h) flags l i (held (book_in s h) σ) ≡ taken ++ (state ++ trace_due (book_in s h) flags l (i + (1 + r.variables)) (held (book_in s h) σ'))
        due-step =
            let n : (clause_here (book_in s h) l i).vars + 1 ≡ i + (1 + r.variables) - i = omega (arith, vars) in
            let to : i + 1 + (clause_here (book_in s h) l i).vars ≡ i + (1 + r.variables) = omega (arith, vars) in
            rw (next, ← n, ← to, ← (numbers-here (book_in s h) l i inside one)) (trace-due-more (book_in s h) flags l i (held (book_in s h) σ) inside)

        left : Left p q (trace_due (book_in s h) flags l 0 (first (book_in s h) flags)) (taken ++ (state ++ trace_due (book_in s h) flags l (i + (1 + r.variables)) (held (book_in s h) σ')))
        left = rw due-step at w.left

        pub numbers-fits : HasRoom q taken
        numbers-fits = next-fits _ left

        module _ {q' : Writer} (y : Puts q q' taken) where
          pub state-fits : HasRoom q' state
          state-fits = next-fits _ (left-more left y)

          pub going-more : {q'' : Writer} → Puts q' q'' state → Going (book_in s h) flags l p q'' (held (book_in s h) σ') (i + (1 + r.variables))
          going-more z = record {
            number = w.number + 1;
            place = rw (start-next (book_in s h) 0 l 0 w.number, ← w.place) (omega (arith, vars));
            left = left-more (left-more left y) z;
          }
