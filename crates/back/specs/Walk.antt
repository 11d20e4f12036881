-- A trace's steps by their places, as the walk over them finds them.
use Rattle.std.specs.Prelude.{◌≡◌, ◌≢◌, List, [], ◌∷◌, ℕ, suc, ◌*◌, ◌≤◌, ◌<◌, length, get_or, ℤ, Option, None, Some}
use Rattle.std.specs.Option.{option_map}
use Rattle.std.specs.Coded.{×_prop, Unit-prop}
use Rattle.std.proofs.Props.{props}
use Rattle.meaning.specs.Book.{Book, Window, Within}
use Rattle.meaning.specs.State.{Control}
use Rattle.lists.specs.Trace as traces
use Rattle.lists.specs.Convert.{as_derivation}
use Rattle.lists.specs.Places.{start}
use Rattle.table.specs.declared.Seat.{Seat}
use Rattle.table.specs.declared.Row.{Row}
use Rattle.book.specs.declared.Header.{Header}
use Rattle.steps.specs.Walk.{Walk}
use Rattle.book.specs.Meaning.{book_in}
use Rattle.back.specs.declared.Measured.{Measured}

-- a trace whose states have z numbers
pub record Trace (s : List ℕ) (h : Header) (C : Control) (l : List ℤ) (z : ℕ) : Type 0 where
  pub walk : Walk s h l z z
  pub size : z ≡ traces.size (book_in s h) C
  pub some : 1 ≤ z
  pub few : length l ≤ 1000000

within-prop : (w : ℕ → Window) (vs : List ℤ) → IsProp (Within w vs)
within-prop w [] = Unit-prop
within-prop w (v ∷ vs) = ×_prop (hlevel props) (within-prop (λ i. w (suc i)) vs)

-- two proofs of it are equal, so that a type may hold one
pub trace-prop : (s : List ℕ) (h : Header) (C : Control) (l : List ℤ) (z : ℕ) → IsProp (Trace s h C l z)
trace-prop s h C l z = hlevel (within-prop, props)

-- the relation of a clause's body by its row, if it has one
abbrev pub body_relation : Row → Option ℕ
body_relation r = option_map (λ (x : Seat). x.relation) r.body

-- how many numbers a body's derivation has, where each relation's are counted: none for no body
abbrev pub body_count : List ℕ → Option ℕ → ℕ
body_count counts None = 0
body_count counts (Some r) = get_or counts r 0

-- the starts of the steps from place i on: r of them, up to 512
pub record Filled (b : Book) (z : ℕ) (l : List ℤ) (i : ℕ) (block : List ℕ) (r : ℕ) : Type 0 where
  pub long : length block ≡ 512
  pub few : r ≤ 512
  pub each : (k : ℕ) → k < r → (get_or block k 0 ≡ start b z l i k) × (start b z l i k < length l)
  pub full : r < 512 → length l ≤ start b z l i r

-- step k's start i is kept where k is a multiple of 512, and the others stay
pub record Kept (marks : List ℕ) (k i : ℕ) (r : List ℕ) : Type 0 where
  pub long : length r ≡ 1024
  pub own : (q : ℕ) → q * 512 ≡ k → get_or r q 0 ≡ i
  pub rest : (q : ℕ) → q * 512 ≢ k → get_or r q 0 ≡ get_or marks q 0

-- the start of every 512th step: r of them, and no step starts after them
pub record Marked (b : Book) (z : ℕ) (l : List ℤ) (marks : List ℕ) (r : ℕ) : Type 0 where
  pub long : length marks ≡ 1024
  pub few : r ≤ 1024
  pub each : (q : ℕ) → q < r → (get_or marks q 0 ≡ start b z l z (q * 512)) × (start b z l z (q * 512) < length l)
  pub all : length l ≤ start b z l z (r * 512)

-- the derivation's length; the starts are kept in the marks, whose other numbers are as they were
pub record Measures (b : Book) (C : Control) (z : ℕ) (l : List ℤ) (relation : ℕ) (before marks : List ℕ) (r : Measured) : Type 0 where
  pub is : r.numbers ≡ length (as_derivation b C relation l)
  pub marked : Marked b z l marks r.marks
  pub rest : (q : ℕ) → r.marks ≤ q → get_or marks q 0 ≡ get_or before q 0
