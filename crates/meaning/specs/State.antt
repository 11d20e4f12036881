-- States of flags and places, and the step between two of them.
use Rattle.std.specs.Prelude.{◌≡◌, ◌≢◌, Bool, true, false, List, [], ◌∷◌, map, ℕ, zero, suc, length, get_or, set, replicate, ℤ, pos, T}
use Rattle.std.proofs.Math.Option.{Option, none, some}
use Rattle.meaning.specs.Book.{Book, Fact, Step, Window, Within, place_window, Instance, head, body}
use Rattle.meaning.specs.System.{System}

-- The part of a state beside the places: how it starts, where a clause without body may step, whether relation r is held, and what putting r in makes of it;
-- its numbers in a list, and how many there are for R relations.
pub record Control : Type 1 where
  pub Ctl : Type 0
  pub start : ℕ → Ctl
  pub free : Ctl → Bool
  pub held : ℕ → Ctl → Bool
  pub next : ℕ → Ctl → Ctl
  pub code : Ctl → List ℤ
  pub width : ℕ → ℕ

-- a row of places for each relation beside the control
pub record State (C : Control) : Type 0 where
  pub ctl : C.Ctl
  pub rows : List (List ℤ)

-- a row for each relation, of its arity, each place in its window
abbrev pub Shaped : (ℕ → ℕ → Window) → List ℕ → List (List ℤ) → Type 0
Shaped w [] [] = Unit {0}
Shaped w [] (v ∷ vs) = ⊥
Shaped w (a ∷ ns) [] = ⊥
Shaped w (a ∷ ns) (v ∷ vs) = (length v ≡ a) × Within (w 0) v × Shaped (λ r. w (suc r)) ns vs

-- an initial state: the control as it starts, and any places in their windows
pub record Initial (b : Book) (C : Control) (σ : State C) : Type 0 where
  pub started : σ.ctl ≡ C.start (length b.arities)
  pub shaped : Shaped (place_window b) b.arities σ.rows

-- a state holds a fact: its relation is held, and its places are those values
pub record Has (C : Control) (f : Fact) (σ : State C) : Type 0 where
  pub held : T (C.held f.rel σ.ctl)
  pub row : get_or σ.rows f.rel [] ≡ f.vals

-- the state with a fact put in: its relation's row is replaced, and all else of the places is as before
abbrev pub write : (C : Control) → Fact → State C → State C
write C f σ = record { ctl = C.next f.rel σ.ctl; rows = set σ.rows f.rel f.vals }

abbrev pub with_places : Book → Control → System
with_places b C = record { State = State C; Init = Initial b C; Fresh = λ σ. T (C.free σ.ctl); Holds = Has C; put = write C }

-- ---- document 01's system: a flag for each relation

abbrev pub bit : Bool → ℤ
bit true = pos 1
bit false = pos 0

-- all flags 0 at the start; a clause without body may step anywhere; a step sets the head's flag and no other
abbrev pub flags : Control
flags = record {
  Ctl = List Bool;
  start = λ R. replicate R false;
  free = λ k. true;
  held = λ r k. get_or k r false;
  next = λ r k. set k r true;
  code = map bit;
  width = λ R. R;
}

abbrev pub Flagged : Book → System
Flagged b = with_places b flags

-- ---- the first state of a converted trace: every place at the low end of its window

abbrev pub low_row : (ℕ → Window) → ℕ → List ℤ
low_row w zero = []
low_row w (suc n) = (w 0).lo ∷ low_row (λ i. w (suc i)) n

abbrev pub low_rows : (ℕ → ℕ → Window) → List ℕ → List (List ℤ)
low_rows w [] = []
low_rows w (n ∷ ns) = low_row (w 0) n ∷ low_rows (λ r. w (suc r)) ns

abbrev pub first : (b : Book) (C : Control) → State C
first b C = record { ctl = C.start (length b.arities); rows = low_rows (place_window b) b.arities }

-- ---- a step stated as a relation of two states

-- l' is l with v at i, and every other element as before; d stands for an element that is not there
pub record Replaced {A : Type 0} (d : A) (l : List A) (i : ℕ) (v : A) (l' : List A) : Type 0 where
  pub size : length l' ≡ length l
  pub there : get_or l' i d ≡ v
  pub rest : (j : ℕ) → j ≢ i → get_or l' j d ≡ get_or l j d

-- the body, if there is one, has its flag set and its places equal to its values
abbrev pub Met : Option Fact → State flags → Type 0
Met none σ = Unit {0}
Met (some f) σ = (get_or σ.ctl f.rel false ≡ true) × (get_or σ.rows f.rel [] ≡ f.vals)

-- one instance whose body is met; afterwards the head's flag is set, its places are its values, and all else is as before
pub record StepsTo (b : Book) (s : Step) (σ σ' : State flags) : Type 0 where
  pub one : Instance b s
  pub met : Met (body b s) σ
  pub flagged : Replaced false σ.ctl (head b s).rel true σ'.ctl
  pub placed : Replaced [] σ.rows (head b s).rel (head b s).vals σ'.rows
