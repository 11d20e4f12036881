-- What is said of a table has one proof at most, so that a type may hold it.
use mathlib.Core.Path.{sym, ap, ◌∙◌}
use mathlib.Core.HLevel.{is_prop→PathP, Unit-prop, ⊥_prop}
use mathlib.Core.Sum.{⊎_set}
use Rattle.std.specs.Prelude.{ℕ, ◌≡◌, List, Ok}
use Rattle.std.specs.Coded.{Coded-set, coded_ℕ, coded_ℤ, coded_list, le_prop}
use Rattle.std.proofs.Math.Option.{Option, none, some}
use Rattle.std.specs.Prelude as code
use Rattle.meaning.specs.Constraint.{Sum, Constraint, Constraint-set}
use Rattle.meaning.specs.Book.{Atom}
use Rattle.cursor.specs.declared.Cursor.{Cursor}
use Rattle.cursor.specs.Steps.{Read}
use Rattle.cursor.specs.Tree.{tree_at}
use Rattle.cursor.specs.Sound.{IsTree}
use Rattle.book.specs.declared.Header.{Header}
use Rattle.table.specs.declared.Seat.{Seat}
use Rattle.table.specs.declared.Row.{Row}
use Rattle.table.specs.Table.{Seated, SeatedBody, IsRow, Tabled}

sum_set : IsSet Sum
sum_set = hlevel (Coded-set (coded_list coded_ℤ), Coded-set coded_ℤ)

constraint_set : IsSet Constraint
constraint_set = Constraint-set sum_set (Coded-set coded_ℕ)

cursor_set : IsSet Cursor
cursor_set = hlevel (Coded-set coded_ℕ)

numbers_set : IsSet (List ℕ)
numbers_set = Coded-set (coded_list coded_ℕ)

-- a constraint that stands at p is the one that reading there gives
tree_prop : (s : List ℕ) (v p : ℕ) → IsProp (IsTree s v p)
tree_prop s v p a b =
    λ i. record {
      tree = (same i).0;
      end = (same i).1;
      reads = is_prop→PathP (λ j. tree_at s v 16 from ≡ Ok (same j)) (λ j. read_set _ _) a.reads b.reads i;
    }
  where
    from : Cursor
    from = record { at = p; left = 64 }

    pair_of : Read Constraint → Constraint × Cursor
    pair_of (Ok x) = x
    pair_of (code.Err e) = (a.tree, a.end)

    same : ◌≡◌ {A = Constraint × Cursor} (a.tree, a.end) (b.tree, b.end)
    same = ap pair_of (sym a.reads ∙ b.reads)

    read_set : IsSet (Read Constraint)
    read_set = hlevel (⊎_set, constraint_set, cursor_set, Coded-set coded_ℕ)

seated_prop : (s : List ℕ) (h : Header) (v : ℕ) (a : Atom) (x : Seat) → IsProp (Seated s h v a x)
seated_prop s h v a x = hlevel (le_prop, Coded-set coded_ℕ, numbers_set)

body_prop : (s : List ℕ) (h : Header) (v : ℕ) (a : Option Atom) (x : code.Option Seat) → IsProp (SeatedBody s h v a x)
unfolding SeatedBody
body_prop s h v none code.None = Unit-prop
body_prop s h v none (code.Some x) = ⊥_prop
body_prop s h v (some a) code.None = ⊥_prop
body_prop s h v (some a) (code.Some x) = seated_prop s h v a x

row_prop : (s : List ℕ) (h : Header) (k : ℕ) (r : Row) → IsProp (IsRow s h k r)
row_prop s h k r = hlevel (le_prop, Coded-set coded_ℕ, constraint_set, body_prop, seated_prop, tree_prop)

pub tabled-prop : (s : List ℕ) (h : Header) (t : List Row) → IsProp (Tabled s h t)
tabled-prop s h t = hlevel row_prop
