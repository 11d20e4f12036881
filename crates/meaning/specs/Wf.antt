-- What the theorems need of a book, out of its limits, and the laws of its windows.
use Rattle.std.specs.Prelude.{◌≡◌, List, [], ◌∷◌, map, ℕ, zero, suc, ◌<◌, length, ℤ, pos, ◌≤ℤ◌}
use Rattle.std.proofs.Common.{suc-le-suc, not-suc-le-zero, le_of_suc-le-suc, zero-lt-suc}
use Rattle.std.proofs.Math.ListN.{get_or, length-map}
use Rattle.meaning.specs.Book.{Book, Clause, Step, Window, Inside, Within, Instance, place_window, variable_window, clause_of, none_such, head}
use Rattle.meaning.specs.Limits.{Each, AtomLimits, ClauseLimits, Limits}

pub record Wf (b : Book) : Type 0 where
  -- a head's relation is there, and has as many arguments as its arity says, each one of the clause's variables
  pub heads : (s : Step) → Instance b s → AtomLimits b.arities (clause_of b s).vars (clause_of b s).head
  -- no place's window is empty
  pub windows : (r i : ℕ) → (place_window b r i).lo ≤ℤ (place_window b r i).hi

pub each_at : {A : Type 0} (P : A → Type 0) (d : A) (xs : List A) → Each P xs → (i : ℕ) → i < length xs → P (get_or xs i d)
each_at P d [] h i l = absurd (not-suc-le-zero l)
each_at P d (x ∷ xs) h zero l = h.0
each_at P d (x ∷ xs) h (suc i) l = each_at P d xs h.1 i (le_of_suc-le-suc l)

-- ---- the laws of the two windows: nothing else opens them

pub place-open : {b : Book} → Limits b → (r i : ℕ) → (place_window b r i).lo ≤ℤ (place_window b r i).hi
unfolding place_window
place-open l r i = l.window

-- what a variable may be, the place of the head where it stands may hold
pub argument-window : (b : Book) (c : Clause) (j : ℕ) (v : ℤ) → Inside (variable_window b c (get_or c.head.args j 0)) v → Inside (place_window b c.head.rel j) v
unfolding place_window variable_window
argument-window b c j v h = record { low = h.low; high = h.high }

-- ----

pub limits-wf : {b : Book} → Limits b → Wf b
limits-wf {b} l = record {
  heads = λ s i. (each_at (ClauseLimits b.arities) none_such b.clauses l.clauses s.clause i.there).head;
  windows = place-open l;
}

within-at : (w : ℕ → Window) (vs : List ℤ) → Within w vs → (i : ℕ) → i < length vs → Inside (w i) (get_or vs i (pos 0))
within-at w [] h i l = absurd (not-suc-le-zero l)
within-at w (v ∷ vs) h zero l = h.0
within-at w (v ∷ vs) h (suc i) l = within-at (λ j. w (suc j)) vs h.1 i (le_of_suc-le-suc l)

within-map : (w : ℕ → Window) (f : ℕ → ℤ) (is : List ℕ) → ((j : ℕ) → j < length is → Inside (w j) (f (get_or is j 0))) → Within w (map f is)
within-map w f [] h = tt
within-map w f (i ∷ is) h = (h 0 (zero-lt-suc (length is)), within-map (λ j. w (suc j)) f is (λ j l. h (suc j) (suc-le-suc l)))

module _ {b : Book} (w : Wf b) (s : Step) (i : Instance b s) where
  pub head-there : (head b s).rel < length b.arities
  unfolding head
  head-there = (w.heads s i).there

  pub head-full : length (head b s).vals ≡ get_or b.arities (head b s).rel 0
  unfolding head
  head-full = rw length-map (w.heads s i).full

  argument-inside : (j : ℕ) → j < length (clause_of b s).head.args
      → Inside (place_window b (clause_of b s).head.rel j) (get_or s.vals (get_or (clause_of b s).head.args j 0) (pos 0))
  argument-inside j l =
      let c = clause_of b s in
      let k = get_or c.head.args j 0 in
      let small : k < length s.vals = rw i.count (each_at (λ (v : ℕ). v < c.vars) 0 c.head.args (w.heads s i).known j l) in
      argument-window b c j (get_or s.vals k (pos 0)) (within-at (variable_window b c) s.vals i.within k small)

  -- a head's values lie in their places' windows
  pub head-in-window : Within (place_window b (head b s).rel) (head b s).vals
  unfolding head
  head-in-window = within-map (place_window b (head b s).rel) (λ (v : ℕ). get_or s.vals v (pos 0)) (clause_of b s).head.args argument-inside
