-- The trace check accepts exactly the traces that reach the goal.
use Rattle.std.specs.Prelude.{◌≡◌, ◌↔◌, get_or, T}
use Rattle.std.proofs.Math.Path.{refl, sym, ap, ap₂}
use Rattle.std.proofs.Common.{◌∙◌, arith, take-append-drop, length-take-le, take-take}
use Rattle.std.proofs.Math.Option.{Option, none, some}
use mathlib.Core.List.{List, [], ◌∷◌, ◌++◌, append_assoc}
use Prim.Native.Nat.{ℕ, suc, ◌+◌, ◌≤◌}
use Rattle.std.proofs.Math.ListN.{length, take, drop, length-append, length-take, length-drop}
use Rattle.std.proofs.Math.Seq.{take_at, drop_at, take-add}
use Rattle.std.proofs.Math.Dec.{leb→le, le→leb}
use Rattle.std.proofs.Math.IntN.{ℤ}
use Rattle.meaning.specs.Book.{Book, Fact, Step, Window, Instance, place_window, head, body}
use Rattle.meaning.specs.Limits.{Limits}
use Rattle.meaning.specs.System.{Enabled, Move, Follows, final, Reaches, moves, steps}
use Rattle.meaning.specs.State.{Control, State, Shaped, Initial, Has, write, with_places}
use Rattle.meaning.specs.Wf.{limits-wf, head-full, head-in-window}
use Rattle.meaning.specs.Rows.{shaped-set}
use Rattle.meaning.specs.Laws.{ControlLaws}
use Rattle.meaning.specs.Conversions.{follows-moves}
use Rattle.reply.specs.Answer.{ok}
use Rattle.reply.specs.Among.{need-ok, and_split, and-join}
use Rattle.lists.specs.Compare.{eq_vals, all_in}
use Rattle.lists.specs.Instance.{clause_at, step_at}
use Rattle.lists.specs.Derivation.{goal}
use Rattle.lists.specs.Trace.{flat, sum, cut, all_rows, state_numbers, width, size, move_numbers, trace_numbers, has, meets, judge_move, trace_walk, first_of, judge_first, check_walk, check_trace}
use Rattle.lists.specs.Among.{among-enabled, among-move, among_first}
use Rattle.lists.specs.Laws.{and-says, and_T, eq_vals-exact, all_in-exact, enabled-exact, Asked, asked-exact}
use Rattle.lists.specs.Runs.{Judged, Sense, written, Runs, accepts-only, accepts-every}

-- ---- rows as numbers

pub rows-length : (w : ℕ → ℕ → Window) (ns : List ℕ) (vs : List (List ℤ)) → Shaped w ns vs → length (flat vs) ≡ sum ns
unfolding flat sum
rows-length w [] [] h = refl
rows-length w [] (v ∷ vs) h = absurd h
rows-length w (n ∷ ns) [] h = absurd h
rows-length w (n ∷ ns) (v ∷ vs) h = length-append v (flat vs) ∙ ap₂ ◌+◌ h.0 (rows-length (λ r. w (suc r)) ns vs h.2)

cut-flat : (ns : List ℕ) (l : List ℤ) → flat (cut ns l) ≡ take (sum ns) l
unfolding flat sum cut
cut-flat [] l = refl
cut-flat (n ∷ ns) l = ap (λ (r : List ℤ). take n l ++ r) (cut-flat ns (drop n l)) ∙ sym (take-add n (sum ns) l)

flat-cut : (w : ℕ → ℕ → Window) (ns : List ℕ) (vs : List (List ℤ)) (rest : List ℤ) → Shaped w ns vs → cut ns (flat vs ++ rest) ≡ vs
unfolding flat cut
flat-cut w [] [] rest h = refl
flat-cut w [] (v ∷ vs) rest h = absurd h
flat-cut w (n ∷ ns) [] rest h = absurd h
flat-cut w (n ∷ ns) (v ∷ vs) rest h =
    rw (append_assoc v (flat vs) rest, take_at v (flat vs ++ rest) n h.0, drop_at v (flat vs ++ rest) n h.0, flat-cut (λ r. w (suc r)) ns vs rest h.2)

rows-exact : (w : ℕ → ℕ → Window) (ns : List ℕ) (l : List ℤ) → sum ns ≤ length l → T (all_rows w (cut ns l)) ↔ Shaped w ns (cut ns l)
unfolding sum cut all_rows
rows-exact w [] l h = (λ t. tt, λ t. tt)
rows-exact w (n ∷ ns) l h =
    let both = and_T (all_in (w 0) (take n l)) (all_rows (λ r. w (suc r)) (cut ns (drop n l))) in
    let one = all_in-exact (w 0) (take n l) in
    let rest = rows-exact (λ r. w (suc r)) ns (drop n l) (rw length-drop (omega arith)) in
    (λ t. (length-take-le n l (omega arith), one.0 (both.0 t).0, rest.0 (both.0 t).1), λ k. both.1 (one.1 k.1, rest.1 k.2))

-- ----

module _ (b : Book) (C : Control) where
  pub has-exact : (f : Fact) (σ : State C) → T (has b C f σ) ↔ Has C f σ
  unfolding has
  has-exact f σ =
      let both = and_T (C.held f.rel σ.ctl) (eq_vals (get_or σ.rows f.rel []) f.vals) in
      let row = eq_vals-exact (get_or σ.rows f.rel []) f.vals in
      (λ t. record { held = (both.0 t).0; row = row.0 (both.0 t).1 }, λ h. both.1 (h.held, row.1 h.row))

  pub meets-exact : (o : Option Fact) (σ : State C) → T (meets b C o σ) ↔ Enabled (with_places b C) o σ
  unfolding meets
  meets-exact none σ = (λ t. t, λ t. t)
  meets-exact (some f) σ = has-exact f σ

  pub move-exact : (k : ℕ) (l : List ℤ) (i : ℕ) (σ : State C) → (judge_move b C k l i σ ≡ ok)
      ↔ Judged b (size b C) k l (λ p. Enabled (with_places b C) p σ) (λ s. state_numbers b C (write C (head b s) σ))
  unfolding judge_move
  move-exact k l i σ =
      let s = step_at b k l in
      let one = enabled-exact b k (size b C) l i (meets b C (body b s) σ) in
      let met = meets-exact (body b s) σ in
      let state = eq_vals-exact (take (size b C) (drop (clause_at b k).vars l)) (state_numbers b C (write C (head b s) σ)) in (
        λ e. let (j, e₁) = and_split _ (among-enabled b k (size b C) l i _) e in
            let (x, n, t) = one.0 j in
            record { one = x; long = n; met = met.0 t; next = state.0 ((need-ok _ _ _ _).0 e₁).0 },
        λ h. and-join (one.1 (h.one, h.long, met.1 h.met), (need-ok _ 19 _ ok).1 (state.1 h.next, refl)),
      )

  module _ (f : Fact) where
    -- a step is enabled, the last state holds the goal, and the next state stands in a gap
    abbrev pub trace_sense : Sense b (trace_walk b C f)
    trace_sense = record {
      Met = Enabled (with_places b C);
      Done = Has C f;
      shown = state_numbers b C;
      step-says = λ k l i σ a. and-says (among-move b C k l i σ) (move-exact k l i σ);
      end-says = λ i σ. (λ e. (has-exact f σ).0 ((need-ok _ _ _ _).0 e).0, λ t. (need-ok _ 17 i ok).1 ((has-exact f σ).1 t, refl));
    }

    moves-written : (σ : State C) (d : List Step) → written b (trace_walk b C f) trace_sense σ d ≡ move_numbers b C (moves b (with_places b C) σ d)
    unfolding move_numbers
    moves-written σ [] = refl
    moves-written σ (s ∷ d) = rw (moves-written (write C (head b s) σ) d)

    pub trace-written : (σ : State C) (ms : List (Move b (with_places b C))) → Follows b (with_places b C) σ ms
        → written b (trace_walk b C f) trace_sense σ (steps b (with_places b C) ms) ≡ move_numbers b C ms
    trace-written σ ms c = moves-written σ (steps b (with_places b C) ms) ∙ ap (move_numbers b C) (sym (follows-moves b (with_places b C) σ ms c))

    runs-follow : (σ : State C) (d : List Step) → Runs b (trace_walk b C f) trace_sense σ d
        → Follows b (with_places b C) σ (moves b (with_places b C) σ d) × Has C f (final b (with_places b C) σ (moves b (with_places b C) σ d))
    runs-follow σ [] r = (tt, r)
    runs-follow σ (s ∷ d) r = let (c, t) = runs-follow (write C (head b s) σ) d r.3 in ((r.0, r.1, refl, c), t)

  -- a list that is accepted as a trace that reaches the goal r vals
  pub record Trace (r : ℕ) (vals l : List ℤ) : Type 0 where
    pub asked : Asked b r vals l
    pub first : State C
    pub moves : List (Move b (with_places b C))
    pub listed : trace_numbers b C first moves ≡ l
    pub reaches : Reaches b (with_places b C) first moves (goal r vals)

  module _ (K : ControlLaws C) where
    -- a control that fits, and for each relation a row of its arity with its places in their windows
    pub record Good (σ : State C) : Type 0 where
      pub fit : K.Fit (length b.arities) σ.ctl
      pub shaped : Shaped (place_window b) b.arities σ.rows

    pub initial-good : {σ : State C} → Initial b C σ → Good σ
    initial-good i = record { fit = rw i.started (K.fit-start (length b.arities)); shaped = i.shaped }

    pub write-good : Limits b → {σ : State C} {s : Step} → Good σ → Instance b s → Good (write C (head b s) σ)
    write-good l {σ} {s} g i =
        let w = limits-wf l in
        record {
          fit = K.fit_next (length b.arities) σ.ctl (head b s).rel g.fit;
          shaped = shaped-set (place_window b) b.arities σ.rows g.shaped (head b s).rel (head b s).vals (head-full w s i) (head-in-window w s i);
        }

    pub state-length : (σ : State C) → Good σ → length (state_numbers b C σ) ≡ size b C
    unfolding state_numbers size
    state-length σ g =
        length-append (C.code σ.ctl) (flat σ.rows)
        ∙ ap₂ ◌+◌ (K.fit-width (length b.arities) σ.ctl g.fit) (rows-length (place_window b) b.arities σ.rows g.shaped)

    -- the first state is read off the list
    pub first-of : (σ : State C) (rest : List ℤ) → Initial b C σ → first_of b C (state_numbers b C σ ++ rest) ≡ σ
    unfolding first_of state_numbers
    first-of σ rest i =
        let x : List ℤ = C.code σ.ctl in
        let y : List ℤ = flat σ.rows in
        let after : drop (width b C) ((x ++ y) ++ rest) ≡ y ++ rest = rw append_assoc (drop_at x (y ++ rest) (width b C) (K.fit-width (length b.arities) σ.ctl (initial-good i).fit)) in
        λ j. record { ctl = sym i.started j; rows = (ap (cut b.arities) after ∙ flat-cut (place_window b) b.arities σ.rows rest i.shaped) j }

    -- a list is accepted that begins with an initial state
    pub first-exact : (l : List ℤ) → (judge_first b C l ≡ ok) ↔ (Initial b C (first_of b C l) × (take (size b C) l ≡ state_numbers b C (first_of b C l)))
    unfolding judge_first first_of state_numbers size
    first-exact l =
        let start : List ℤ = C.code (C.start (length b.arities)) in
        let rows = cut b.arities (drop (width b C) l) in
        let n = sum b.arities in
        let z : length start ≡ width b C = K.fit-width (length b.arities) (C.start (length b.arities)) (K.fit-start (length b.arities)) in
        let same = eq_vals-exact (take (width b C) l) start in (
          λ e. let (t₁, e₁) = (need-ok _ _ _ _).0 e in
              let (t₂, e₂) = (need-ok _ _ _ _).0 e₁ in
              let (t₃, e₃) = (need-ok _ _ _ _).0 e₂ in
              let long : width b C + n ≤ length l = leb→le (width b C + n) (length l) t₁ in (
                record { started = refl; shaped = (rows-exact (place_window b) b.arities (drop (width b C) l) (rw length-drop (omega arith))).0 t₃ },
                take-add (width b C) n l ∙ ap₂ {C = List ℤ} (λ x y. x ++ y) (same.0 t₂) (sym (cut-flat b.arities (drop (width b C) l))),
              ),
          λ h. let s : length (start ++ flat rows) ≡ width b C + n = state-length (first_of b C l) (initial-good h.0) in
              let long : width b C + n ≤ length l = omega (arith, rw length-take at (ap length h.1)) in
              let front : take (width b C) l ≡ start = sym (take-take (width b C) (width b C + n) l (omega arith)) ∙ ap (take (width b C)) h.1 ∙ take_at start (flat rows) (width b C) z in
              (need-ok _ 13 0 _).1 (
                le→leb (width b C + n) (length l) long,
                (need-ok _ 18 _ _).1 (
                  same.1 front,
                  (need-ok _ 14 _ ok).1 ((rows-exact (place_window b) b.arities (drop (width b C) l) (rw length-drop (omega arith))).1 h.0.shaped, refl),
                ),
              ),
        )

    module _ (L : Limits b) where
      pub trace-runs : (f : Fact) (σ : State C) (ms : List (Move b (with_places b C))) → Good σ → Follows b (with_places b C) σ ms → Has C f (final b (with_places b C) σ ms)
          → Runs b (trace_walk b C f) (trace_sense f) σ (steps b (with_places b C) ms)
      trace-runs f σ [] g c t = t
      trace-runs f σ (m ∷ ms) g c t =
          let g' : Good m.next = rw c.2 (write-good L g c.0) in
          (c.0, c.1, rw (← c.2) (state-length m.next g'), rw (← c.2) (trace-runs f m.next ms g' c.3 t))

      pub walk-exact : (f : Fact) (l : List ℤ) → (check_walk b C f l ≡ ok)
          ↔ ((σ : State C) × (ms : List (Move b (with_places b C))) × (trace_numbers b C σ ms ≡ l) × Reaches b (with_places b C) σ ms f)
      unfolding check_walk trace_numbers
      walk-exact f l = (
        λ e. let (j, more) = and_split _ (among_first b C l) e in
            let (i, p) = (first-exact l).0 j in
            let σ = first_of b C l in
            let (d, q, r) = accepts-only b (trace_walk b C f) (trace_sense f) (length l) (size b C) σ (drop (size b C) l) (rw length-drop (omega arith)) more in
            let (c, t) = runs-follow f σ d r in
            (σ, moves b (with_places b C) σ d, rw (← (moves-written f σ d), q, ← p, take-append-drop), record { init = i; follows = c; holds = t }),
        λ h. rw h.2 at (accepted h.0 h.1 h.3),
      )
        where
          accepted : (σ : State C) (ms : List (Move b (with_places b C))) → Reaches b (with_places b C) σ ms f → check_walk b C f (state_numbers b C σ ++ move_numbers b C ms) ≡ ok
          accepted σ ms t =
              let state : List ℤ = state_numbers b C σ in
              let rest : List ℤ = move_numbers b C ms in
              let here : first_of b C (state ++ rest) ≡ σ = first-of σ rest t.init in
              let g : Good σ = initial-good t.init in
              let z : length state ≡ size b C = state-length σ g in
              let w = trace-written f σ ms t.follows in
              and-join (
                (first-exact (state ++ rest)).1 (rw here t.init, rw here (take_at state rest (size b C) z)),
                rw (here, drop_at state rest (size b C) z, ← w)
                    (accepts-every b (trace_walk b C f) (trace_sense f) _ (size b C) σ (steps b (with_places b C) ms) (rw (w, length-append) (omega arith)) (trace-runs f σ ms g t.follows t.holds)),
              )

      -- ---- with the goal and the list's length

      pub check_trace-exact : (r : ℕ) (vals l : List ℤ) → (check_trace b C r vals l ≡ ok) ↔ Trace r vals l
      unfolding check_trace
      check_trace-exact r vals l =
          let whole = asked-exact b r vals l (check_walk b C (goal r vals) l) in
          let exact = walk-exact (goal r vals) l in (
            λ e. let (q, a) = whole.0 e in
                let (σ, ms, p, h) = exact.0 a in
                record { asked = q; first = σ; moves = ms; listed = p; reaches = h },
            λ h. whole.1 (h.asked, exact.1 (h.first, h.moves, h.listed, h.reaches)),
          )
