-- The printed text of a book: its lines, each an S-expression.
use Rattle.std.specs.Prelude.{List, ℕ}
use Rattle.meaning.specs.Book.{Book, none_such, place_window}
use Rattle.sexp.specs.Sexp.{Sexps, end, ◌&◌, ◌⧺◌, over, lines}
use Rattle.script.specs.Lines.{relation_lines, input_lines, init_line, trans_line, prop_line}

-- the relations, the clauses' variables, `init`, `trans`, `prop`
unfoldable pub script : Book → Sexps
script b =
    over 0 b.arities relation_lines
    ⧺ (over none_such b.clauses input_lines
    ⧺ (init_line (place_window b) b.arities
    & trans_line b
    & prop_line b.query
    & end))

unfoldable pub text : Book → List ℕ
text b = lines (script b)
