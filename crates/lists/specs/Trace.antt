-- A trace as a list of numbers: the first state, then for each step its clause number, its inputs and the whole next state; and what its check answers.
use Rattle.std.specs.Prelude.{Bool, true, false, ◌&&◌, List, [], ◌∷◌, ◌++◌, ℕ, suc, ◌+◌, length, get_or, take, drop, leb, ℤ, pos}
use Rattle.std.proofs.Math.Option.{Option, none, some}
use Rattle.meaning.specs.Book.{Book, Fact, Window, place_window, head, body}
use Rattle.meaning.specs.System.{Move}
use Rattle.meaning.specs.State.{Control, State, write, with_places}
use Rattle.reply.specs.Answer.{Answer, ok, need, and_then}
use Rattle.lists.specs.Compare.{eq_vals, all_in, first_out, first_diff}
use Rattle.lists.specs.Instance.{clause_at, step_at, judge_enabled}
use Rattle.lists.specs.Walker.{Walker, walk}
use Rattle.lists.specs.Derivation.{judge_goal, judge_length, goal}

-- ---- states as numbers: the control's, then all places in relation order

unfoldable pub flat : List (List ℤ) → List ℤ
flat [] = []
flat (v ∷ vs) = v ++ flat vs

unfoldable pub sum : List ℕ → ℕ
sum [] = 0
sum (n ∷ ns) = n + sum ns

-- rows of given lengths, from the front of a list
unfoldable pub cut : List ℕ → List ℤ → List (List ℤ)
cut [] l = []
cut (n ∷ ns) l = take n l ∷ cut ns (drop n l)

-- every place lies in its window, and the place of the first that does not, where the first row starts at p
unfoldable pub all_rows : (ℕ → ℕ → Window) → List (List ℤ) → Bool
all_rows w [] = true
all_rows w (v ∷ vs) = all_in (w 0) v && all_rows (λ r. w (suc r)) vs

unfoldable pub first_out_rows : (ℕ → ℕ → Window) → ℕ → List (List ℤ) → ℕ
first_out_rows w p [] = p
first_out_rows w p (v ∷ vs) = elim (all_in (w 0) v) [ true ↦ first_out_rows (λ r. w (suc r)) (p + length v) vs | false ↦ first_out (w 0) p v ]

module _ (b : Book) (C : Control) where
  unfoldable pub state_numbers : State C → List ℤ
  state_numbers σ = C.code σ.ctl ++ flat σ.rows

  -- how many numbers the control has, and a state
  abbrev pub width : ℕ
  width = C.width (length b.arities)

  unfoldable pub size : ℕ
  size = width + sum b.arities

  unfoldable pub move_numbers : List (Move b (with_places b C)) → List ℤ
  move_numbers [] = []
  move_numbers (m ∷ ms) = pos m.step.clause ∷ (m.step.vals ++ (state_numbers m.next ++ move_numbers ms))

  unfoldable pub trace_numbers : State C → List (Move b (with_places b C)) → List ℤ
  trace_numbers σ ms = state_numbers σ ++ move_numbers ms

  -- ---- the check

  -- a state holds a fact
  unfoldable pub has : Fact → State C → Bool
  has f σ = C.held f.rel σ.ctl && eq_vals (get_or σ.rows f.rel []) f.vals

  unfoldable pub meets : Option Fact → State C → Bool
  meets none σ = C.free σ.ctl
  meets (some f) σ = has f σ

  -- one step by clause k from place i on in the state σ: its inputs and then the next state stand at the front of l
  unfoldable pub judge_move : ℕ → List ℤ → ℕ → State C → Answer
  judge_move k l i σ =
      let s = step_at b k l in
      let n = (clause_at b k).vars in
      let due = state_numbers (write C (head b s) σ) in
      and_then (judge_enabled b k size l i (meets (body b s) σ))
      (need (eq_vals (take size (drop n l)) due) 19 (first_diff (i + 1 + n) (drop n l) due) ok)

  -- the check of the steps remembers the state before; at the end it holds the goal f
  abbrev pub trace_walk : Fact → Walker Answer
  trace_walk f = record {
    Memory = State C;
    gap = size;
    step = λ k l i σ. and_then (judge_move k l i σ);
    next = λ s σ. write C (head b s) σ;
    ended = λ i σ. need (has f σ) 17 i ok;
  }

  -- the first state that a list begins with: the control as it starts, and the places that stand there
  unfoldable pub first_of : List ℤ → State C
  first_of l = record { ctl = C.start (length b.arities); rows = cut b.arities (drop width l) }

  -- it is there in full (13), its control is the start's (18), its places lie in their windows (14)
  unfoldable pub judge_first : List ℤ → Answer
  judge_first l =
      let start = C.code (C.start (length b.arities)) in
      let rows = cut b.arities (drop width l) in
      need (leb size (length l)) 13 0
      (need (eq_vals (take width l) start) 18 (first_diff 0 l start)
      (need (all_rows (place_window b) rows) 14 (first_out_rows (place_window b) width rows) ok))

  unfoldable pub check_walk : Fact → List ℤ → Answer
  check_walk f l = and_then (judge_first l) (walk b (trace_walk f) (length l) size (first_of l) (drop size l))

  unfoldable pub check_trace : ℕ → List ℤ → List ℤ → Answer
  check_trace r vals l = and_then (judge_goal b r vals) (and_then (judge_length l) (check_walk (goal r vals) l))
