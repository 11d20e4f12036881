-- What printing a constraint leaves.
use Rattle.std.specs.Prelude.{◌≡◌, List, [], ◌∷◌, ℕ, Ok}
use Rattle.meaning.specs.Constraint.{Constraint}
use Rattle.sexp.specs.Sexp.{Sexp, end, ◌&◌, spaced, w}
use Rattle.cursor.specs.declared.Cursor.{Cursor}
use Rattle.cursor.specs.declared.Comparison.{Comparison}
use Rattle.cursor.specs.declared.Comparison.TheVariants.{AtMost, Equal}
use Rattle.cursor.specs.declared.Remains.{Remains}
use Rattle.cursor.specs.Steps.{Read}
use Rattle.cursor.specs.Tree.{sum_of}
use Rattle.put.specs.declared.Printer.{Printer}
use Rattle.put.specs.Shows.{Wrote, Shows}
use Rattle.term.specs.declared.Rule.{Rule}
use Rattle.script.specs.Terms.{sum, compared, remains, constraint}

-- a sum out of the clause's bytes
abbrev pub sum_in : Rule → ℕ → Sexp
sum_in r p = sum r.clause (sum_of r.bytes.now r.variables p)

-- the S-expression of a comparison's or a remainder's data
unfoldable pub compared_of : Rule → Comparison → Sexp
compared_of r (AtMost a) = compared (w "<=") (sum_in r a.at)
compared_of r (Equal a) = compared (w "=") (sum_in r a.at)

unfoldable pub remains_of : Rule → Remains → Sexp
remains_of r m = remains (sum_in r m.sum.at) m.d m.r

-- a sum and zero, as they end a comparison
abbrev pub zero_of : Rule → ℕ → List ℕ
zero_of r p = spaced (sum_in r p & w "0" & end) (41 ∷ [])

-- if a constraint is read, it is printed, and reading goes on where it ends
pub record Drawn (k : ℕ) (y : Read Constraint) (p q : Printer) (next : Cursor) : Type 0 where
  pub holds : (t : Constraint) (c : Cursor) → y ≡ Ok (t, c) → Shows p q (constraint k t) × (next ≡ c)

-- if two are read, one after the other, they are printed, with the bracket that closes what they stand in
pub record DrawnTwo (k : ℕ) (read : Cursor → Read Constraint) (c : Cursor) (p q : Printer) (next : Cursor) : Type 0 where
  pub holds : (t u : Constraint) (f g : Cursor) → read c ≡ Ok (t, f) → read f ≡ Ok (u, g) →
      Wrote p q (spaced (constraint k t & constraint k u & end) (41 ∷ [])) × (next ≡ g)
