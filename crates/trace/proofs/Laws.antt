-- The ways of walking a trace, by what is due from a place on.
use Prim.Native.Nat.{ℕ, ◌+◌, ◌<◌, ◌≤◌}
use native.Mathlib.Omega.{arith}
use mathlib.Core.Path.{◌≡◌, refl, sym, ap, ◌∙◌}
use Rattle.std.proofs.Common.{length-set}
use mathlib.Core.List.{List}
use mathlib.Core.Bool.{Bool, true, false}
use lib.ListN.{length, get_or, set, take, drop, replicate, length-drop}
use lib.Seq.{drop-drop}
use lib.Dec.{leb}
use lib.IntN.{ℤ, pos}
use borrow.Author.Tests.{le-leb, lt-leb}
use Rattle.meaning.specs.Book.{Book, Fact, body, head}
use Rattle.meaning.specs.State.{Control, State, write, flags}
use Rattle.reply.specs.declared.Refusal.{Refusal}
use Rattle.reply.specs.Among.{giving-no, giving-ok}
use Rattle.reply.specs.Answer as reply
use Rattle.reply.specs.Answer.{ok, refused, need, and_then, refuse, told, giving, Outcome}
use Rattle.lists.specs.Compare.{eq_vals, first_diff}
use Rattle.lists.specs.Instance.{clause_number, clause_at, step_at, judge}
use Rattle.lists.specs.Trace.{size, state_numbers, has, meets, judge_move, first_of}
use Rattle.lists.specs.Laws.{enabled-exact}
use Rattle.lists.specs.Among.{among-enabled}
use Rattle.lists.specs.Due.{walk_due, walk-due-none}
use Rattle.lists.proofs.Due.{walk-due-more}
use Rattle.cursor.proofs.Laws.{via}
use Rattle.book.specs.declared.Header.{Header}
use Rattle.book.specs.Read.{read}
use Rattle.book.specs.Meaning.{book_in}
use Rattle.book.specs.Joined.{count-is}
use Rattle.book.specs.Arities.{relations-are}
use Rattle.table.specs.declared.Row.{Row}
use Rattle.table.specs.Table.{IsRow}
use Rattle.instance.specs.Values.{number_in}
use Rattle.instance.proofs.Laws.{values_length, enabled-stop, enabled-met, enabled-unmet, instance-room, instance-clause}
use Rattle.instance.proofs.Atoms.{head_at, head-there}
use Rattle.asked.proofs.Judge.{need-yes, need-no, ends-well}
use Rattle.state.specs.declared.State as code
use Rattle.state.specs.State.{held, row_put, first_rows, Sized}
use Rattle.state.specs.Laws.{front_length, put-length, state-put, state-many, state-first}
use Rattle.state.proofs.Shape.{arities-few, arities-small}
use Rattle.state.proofs.Laws.{head_few}
use Rattle.state.proofs.Difference.{diff-all}
use Rattle.trace.specs.Step.{enabled, next_state, ends}
use Rattle.std.specs.Prelude.{Ok, Err}

-- ---- the end

module _ (b : Book) (C : Control) (σ : State C) (f : Fact) (n : ℕ) {x : Outcome} {r : Bool} where
  pub end-met : r ≡ has b C f σ → r ≡ true → x ≡ Ok 0 → x ≡ told (ends b C σ f n)
  unfolding ends
  end-met p q e = need-yes 17 n _ _ p q (ends-well e)

  pub end-missed : r ≡ has b C f σ → r ≡ false → x ≡ Err (refuse 17 n) → x ≡ told (ends b C σ f n)
  unfolding ends
  end-missed p q e = need-no 17 n _ _ p q e

-- ---- a step that is taken

given : (b : Book) (C : Control) (k : ℕ) (l : List ℤ) (i : ℕ) (σ : State C) {n m : ℕ} → giving (enabled b C k l i σ) n ≡ Ok m → (enabled b C k l i σ ≡ ok) × (n ≡ m)
unfolding enabled
given b C k l i σ {n} e = giving-ok _ n (among-enabled _ _ _ _ _ _) e

-- ---- what is due from a place on

module _ (b : Book) (C : Control) (f : Fact) (l : List ℤ) (i : ℕ) (σ : State C) where
  abbrev clause : ℕ
  clause = clause_number b (get_or l i (pos 0))

  abbrev rest : List ℤ
  rest = drop (i + 1) l

  pub due-end : {x : Outcome} → i ≤ length l → length l ≤ i → x ≡ told (ends b C σ f (length l)) → x ≡ told (walk_due b C f l i σ)
  unfolding ends
  due-end a c e =
      let z : i ≡ length l = omega arith in
      rw (walk-due-none b C f l i σ c, z) e

  -- a move is judged in two parts: 12 to 16, then its next state
  two-parts : (at : ℕ) → at ≡ i + 1 + (clause_at b clause).vars
      → judge_move b C clause rest i σ ≡ and_then (enabled b C clause rest i σ) (next_state b C l at (write C (head b (step_at b clause rest)) σ))
  unfolding judge_move enabled next_state
  two-parts at e = rw (drop-drop (clause_at b clause).vars (i + 1) l, e)

  module _ (lt : i < length l) {y : Outcome} (judged : y ≡ giving (enabled b C clause rest i σ) clause) where
    -- the step is refused
    pub due-stop : {v : Refusal} {x : Outcome} → y ≡ Err v → x ≡ Err v → x ≡ told (walk_due b C f l i σ)
    unfolding and_then told
    due-stop {v} stop e = rw (walk-due-more b C f l i σ lt, two-parts _ refl, giving-no _ _ v (sym judged ∙ stop)) e

    -- it is not, and the next state τ stands at place j
    module _ {m : ℕ} (none : y ≡ Ok m) (τ : State C) (moved : τ ≡ write C (head b (step_at b clause rest)) σ) {j : ℕ} (at : j ≡ i + 1 + (clause_at b clause).vars)
        (many : length (state_numbers b C τ) ≡ size b C) (fits : j + size b C ≤ length l) {d : ℕ} (q : d ≡ first_diff j (drop j l) (state_numbers b C τ)) where
      opened : walk_due b C f l i σ ≡ and_then (next_state b C l j τ) (walk_due b C f l (j + size b C) τ)
      unfolding and_then
      opened = rw (walk-due-more b C f l i σ lt, two-parts j at, (given b C clause rest i σ (sym judged ∙ none)).0, moved, at)

      compared : leb (j + size b C) d ≡ eq_vals (take (size b C) (drop j l)) (state_numbers b C τ)
      compared = rw (q, ← many) (diff-all j (drop j l) (state_numbers b C τ) (rw length-drop (omega (arith, many))))

      pub due-differs : {x : Outcome} {more : ℕ} → more ≡ size b C → d < j + more → x ≡ Err (refuse 19 d) → x ≡ told (walk_due b C f l i σ)
      unfolding next_state and_then need told
      due-differs z k e = rw (opened, sym compared ∙ lt-leb _ _ (rw z at k)) (e ∙ ap (λ (m : ℕ). Err (refuse 19 m)) q)

      pub due-on : {x : Outcome} {more : ℕ} → more ≡ size b C → j + more ≤ d → x ≡ told (walk_due b C f l (j + more) τ) → x ≡ told (walk_due b C f l i σ)
      unfolding next_state and_then need
      due-on z k e = rw (opened, sym compared ∙ le-leb _ _ (rw z at k)) (rw z at e)

-- ---- one step of the code: it has the clause number as k, and a state has `more` numbers

module _ (s : List ℕ) (h : Header) (good : read s ≡ Ok h) (l : List ℤ) (i : ℕ) {more : ℕ} (z : Sized (book_in s h) flags more) (lt : i < length l) (σ : code.State) where
  abbrev b : Book
  b = book_in s h

  abbrev number_here : ℕ
  number_here = number_in s h l i

  abbrev met_here : Bool
  met_here = meets b flags (body b (step_at b number_here (drop (i + 1) l))) (held b σ)

  abbrev judged_step : reply.Answer
  judged_step = enabled b flags number_here (drop (i + 1) l) i (held b σ)

  module _ {y : Outcome} (e : y ≡ giving (judge b number_here more (drop (i + 1) l) i) number_here) where
    pub step-stop : {v : Refusal} → y ≡ Err v → judged_step ≡ refused v.number v.place
    unfolding enabled
    step-stop stop = rw (← z.is) (enabled-stop s h good l i more e met_here stop)

    module _ {k : ℕ} (none : y ≡ Ok k) where
      same : number_here ≡ k
      same = instance-clause s h good l i more e none

      pub step-same : {x : Outcome} → x ≡ Ok k → x ≡ Ok number_here
      step-same q = rw same q

      -- what `meets` asks
      pub step-there : (k < h.count) × (i + 1 + (clause_at b k).vars ≤ length l)
      step-there = let (x, y) = instance-room s h good l i more e none lt in (rw same at x, omega (arith, rw same at y))

      module _ {r : Bool} (p : r ≡ meets b flags (body b (step_at b k (drop (i + 1) l))) (held b σ)) where
        at-number : r ≡ met_here
        at-number = rw same p

        pub step-met : r ≡ true → judged_step ≡ ok
        unfolding enabled
        step-met u = rw (← z.is) (enabled-met s h good l i more e none met_here at-number u)

        pub step-unmet : r ≡ false → judged_step ≡ refused 16 i
        unfolding enabled
        step-unmet u = rw (← z.is) (enabled-unmet s h good l i more e none met_here at-number u)

  -- ---- after it

  module _ {y : Outcome} (e : y ≡ giving judged_step number_here) where
    -- it may be taken, and the code goes on with the state τ, in which its head is put
    module _ {k : ℕ} (none : y ≡ Ok k) where
      both : (judged_step ≡ ok) × (number_here ≡ k)
      both = given b flags number_here (drop (i + 1) l) i (held b σ) (sym e ∙ none)

      judged-ok : judged_step ≡ ok
      judged-ok = both.0

      here : number_here ≡ k
      here = both.1

      pub on_stands : (k < h.count) × (i + 1 + (clause_at b k).vars + more ≤ length l)
      unfolding enabled
      on_stands =
          let (one, room, met) = (enabled-exact b number_here (size b flags) (drop (i + 1) l) i met_here).0 judged-ok in
          let below : number_here < h.count = omega (arith, one.there, count-is s h good) in
          let long : i + 1 + (clause_at b number_here).vars + more ≤ length l = omega (arith, room, length-drop (i + 1) l, z.is) in
          (rw here at below, rw here at long)

      module _ {row : Row} (w : IsRow s h k row) where
        -- where the next state stands, and that it is there
        pub on-at : i + 1 + row.variables ≡ i + 1 + (clause_at b number_here).vars
        on-at = rw here (omega (arith, w.vars))

        pub on_fits : i + 1 + row.variables + more ≤ length l
        on_fits = omega (arith, on_stands.1, w.vars)

        pub on-moved : {τ : code.State} → length σ.flags ≡ 16 → length σ.rows ≡ 16
            → τ.flags ≡ set σ.flags (head b (step_at b k (drop (i + 1) l))).rel true → τ.rows ≡ row_put (head b (step_at b k (drop (i + 1) l))) σ.rows
            → held b τ ≡ write flags (head b (step_at b number_here (drop (i + 1) l))) (held b σ)
        on-moved a c d e =
            let f = head b (step_at b k (drop (i + 1) l)) in
            let is = head_at w l (i + 1) in
            let rel : f.rel ≡ row.head.relation = ap (λ (g : Fact). g.rel) is in
            let full : length f.vals ≡ get_or b.arities f.rel 0 =
            ap (λ (g : Fact). length g.vals) is ∙ values_length l (head-there w l (i + 1) (omega (arith, on_stands.1))) ∙ w.head.full ∙ ap (λ (m : ℕ). get_or b.arities m 0) (sym rel) in
            let low : row.head.relation < 16 = head_few good w in
            rw (here, d, e) (state-put b.arities σ.flags σ.rows f full (omega arith) (omega arith))

-- ---- the walk, with a state of `more` numbers, at place i in the state σ

pub record Going (s : List ℕ) (h : Header) (f : Fact) (l : List ℤ) (more i : ℕ) (σ : code.State) : Type 0 where
  pub flags_there : length σ.flags ≡ 16
  pub rows_there : length σ.rows ≡ 16
  pub there : i ≤ length l
  pub due : told (walk_due (book_in s h) flags f l i (held (book_in s h) σ)) ≡ told (walk_due (book_in s h) flags f l more (first_of (book_in s h) flags l))

module _ (s : List ℕ) (h : Header) (good : read s ≡ Ok h) (f : Fact) (l : List ℤ) {more : ℕ} (z : Sized (book_in s h) flags more) where
  abbrev system : Book
  system = book_in s h

  abbrev whole_walk : reply.Answer
  whole_walk = walk_due system flags f l more (first_of system flags l)

  pub going_start : {σ : code.State} {n : ℕ} → n ≡ h.relations → more ≤ length l → σ.flags ≡ replicate 16 false → σ.rows ≡ first_rows system.arities (drop n l) → Going s h f l more more σ
  unfolding first_rows
  going_start {σ} {n} k long a e =
      let own : n ≡ length system.arities = k ∙ sym (relations-are s h good) in
      record {
        flags_there = ap length a;
        rows_there = ap length e ∙ front_length (replicate 8 (pos 0)) 16 _;
        there = long;
        due = ap (λ (τ : State flags). told (walk_due system flags f l more τ))
            (rw (a, e, own) (state-first system l (arities-few s h good) (arities-small s h good) (omega (arith, z.is))));
      }

  module _ {i : ℕ} {σ : code.State} (g : Going s h f l more i σ) where
    -- the list ends
    pub going_done : {x : Outcome} {r : Bool} → length l ≤ i → r ≡ has system flags f (held system σ) → r ≡ true → x ≡ Ok 0 → x ≡ told whole_walk
    going_done stop p q e = via g.due (due-end system flags f l i _ g.there stop (end-met system flags _ f _ p q e))

    pub going-missed : {x : Outcome} {r : Bool} → length l ≤ i → r ≡ has system flags f (held system σ) → r ≡ false → x ≡ Err (refuse 17 (length l)) → x ≡ told whole_walk
    going-missed stop p q e = via g.due (due-end system flags f l i _ g.there stop (end-missed system flags _ f _ p q e))

    module _ (lt : i < length l) {v : Outcome} (e : v ≡ giving (enabled system flags (number_in s h l i) (drop (i + 1) l) i (held system σ)) (number_in s h l i)) where
      -- a step is refused
      pub going-stop : {u : Refusal} {x : Outcome} → v ≡ Err u → x ≡ Err u → x ≡ told whole_walk
      going-stop stop q = via g.due (due-stop system flags f l i _ lt e stop q)

      -- a step is taken, by clause k: its head is put into the state, and the next state is due
      module _ {k : ℕ} (none : v ≡ Ok k) {row : Row} (w : IsRow s h k row)
          {τ : code.State} (a : τ.flags ≡ set σ.flags (head system (step_at system k (drop (i + 1) l))).rel true) (b : τ.rows ≡ row_put (head system (step_at system k (drop (i + 1) l))) σ.rows)
          {d : ℕ} (y : d ≡ first_diff (i + 1 + row.variables) (drop (i + 1 + row.variables) l) (state_numbers system flags (held system τ))) where
        moved : held system τ ≡ write flags (head system (step_at system (number_in s h l i) (drop (i + 1) l))) (held system σ)
        moved = on-moved s h good l i z lt σ e none w g.flags_there g.rows_there a b

        at : i + 1 + row.variables ≡ i + 1 + (clause_at system (number_in s h l i)).vars
        at = on-at s h good l i z lt σ e none w

        many : length (state_numbers system flags (held system τ)) ≡ size system flags
        unfolding size
        many = state-many system.arities τ.flags τ.rows system

        fits : i + 1 + row.variables + more ≤ length l
        fits = on_fits s h good l i z lt σ e none w

        pub going-differs : {x : Outcome} → d < i + 1 + row.variables + more → x ≡ Err (refuse 19 d) → x ≡ told whole_walk
        going-differs c v = via g.due (due-differs system flags f l i _ lt e none _ moved at many (omega (arith, fits, z.is)) y z.is c v)

        pub going_on : i + 1 + row.variables + more ≤ d → Going s h f l more (i + 1 + row.variables + more) τ
        going_on c = record {
          flags_there = ap length a ∙ length-set σ.flags _ true ∙ g.flags_there;
          rows_there = ap length b ∙ put-length _ σ.rows ∙ g.rows_there;
          there = fits;
          due = via g.due (due-on system flags f l i _ lt e none _ moved at many (omega (arith, fits, z.is)) y z.is c refl);
        }
