-- What the table says of the step at a place, and the starts of a trace's steps.
use mathlib.Core.Path.{◌≡◌, refl, sym, ap}
use mathlib.Core.Option.{Option, none, some}
use mathlib.Core.List.{List}
use Prim.Native.Nat.{ℕ, ◌≤◌, ◌<◌}
use native.Mathlib.Omega.{arith}
use lib.IntN.{ℤ}
use Rattle.meaning.specs.Book.{Book, Atom}
use Rattle.meaning.specs.State.{Control, flags}
use Rattle.lists.specs.Trace.{size}
use Rattle.lists.specs.Places.{clause_here, start}
use Rattle.lists.specs.Back.{relation_of, trace_start}
use Rattle.book.specs.declared.Header.{Header}
use Rattle.book.specs.Read.{read}
use Rattle.book.specs.Meaning.{book_in}
use Rattle.book.specs.Trailer.{read-trailed}
use Rattle.book.specs.Arities.{relations-are}
use Rattle.std.specs.Prelude as code
use Rattle.std.specs.Option.{option_map}
use Rattle.table.specs.declared.Seat.{Seat}
use Rattle.table.specs.declared.Row.{Row}
use Rattle.table.specs.Table.{SeatedBody, IsRow}
use Rattle.instance.specs.Values.{number_in}
use Rattle.back.specs.Walk.{Trace, body_relation}
use Rattle.back.specs.Gone.{told}
use Rattle.std.specs.Prelude.{Ok}

-- ---- the step at place i by its clause's row

pub record Cells (b : Book) (l : List ℤ) (i : ℕ) (r : Row) : Type 0 where
  pub vars : (clause_here b l i).vars ≡ r.variables
  pub few : r.variables ≤ 16
  pub head-is : (clause_here b l i).head.rel ≡ r.head.relation
  pub head_small : r.head.relation < 16
  pub body_is : told (body_relation r) ≡ relation_of (clause_here b l i).body
  pub body-small : (q : ℕ) → body_relation r ≡ code.Some q → q < 16

module _ (s : List ℕ) (h : Header) (good : read s ≡ Ok h) where
  small : (r : ℕ) → r < h.relations → r < 16
  small r k = let t = (read-trailed s h good).kept in omega arith

  body-told : (v : ℕ) (o : Option Atom) (x : code.Option Seat) → SeatedBody s h v o x →
      let q = option_map (λ (y : Seat). y.relation) x in
      (told q ≡ relation_of o) × ((r : ℕ) → q ≡ code.Some r → r < 16)
  unfolding SeatedBody
  body-told v none code.None e = (refl, λ r n. absurd (let z : ⊥ = cc in z))
  body-told v none (code.Some x) e = absurd e
  body-told v (some a) code.None e = absurd e
  body-told v (some a) (code.Some x) w = (ap some (sym w.is), λ r n. let e : x.relation ≡ r = cc in rw e at (small x.relation w.below))

pub cells_of : {s : List ℕ} {h : Header} {l : List ℤ} {i : ℕ} {r : Row} → read s ≡ Ok h → IsRow s h (number_in s h l i) r → Cells (book_in s h) l i r
cells_of {s} {h} {l} {i} {r} good w =
    let (b, n) = body-told s h good r.variables _ r.body w.body in
    record { vars = w.vars; few = w.few; head-is = w.head.is; head_small = small s h good _ w.head.below; body_is = b; body-small = n }

-- ---- the starts of a trace's steps

pub trace-start : {s : List ℕ} {h : Header} {C : Control} {l : List ℤ} {z : ℕ} (t : Trace s h C l z) (j : ℕ) → start (book_in s h) z l z j ≡ trace_start (book_in s h) C l j
trace-start t j = rw t.size

-- a state of flags has a number for each relation at least
pub flags-some : (s : List ℕ) (h : Header) → read s ≡ Ok h → 1 ≤ size (book_in s h) flags
unfolding size
flags-some s h good = let k = (read-trailed s h good).kept in omega (arith, relations-are s h good)
