-- The lines of the printed text.
use Rattle.std.specs.Prelude.{Bool, true, false, List, ℕ, length, eqb}
use Rattle.std.proofs.Math.Option.{Option, none, some}
use Prim.Native.String.{String}
use Rattle.meaning.specs.Book.{Atom, Clause, Book, Window, none_such, variable_window}
use Rattle.sexp.specs.Bytes.{bytes}
use Rattle.sexp.specs.Sexp.{Sexp, Sexps, word, list, end, ◌&◌, ◌⧺◌, each, over, w}
use Rattle.script.specs.Names.{flag_name, place_name, input_name, next, in_state, pair_name}
use Rattle.script.specs.Terms.{limits, same, kept, constraint}

-- ---- declarations

abbrev pub declare : List ℕ → String → Sexp
declare n sort = list (w "declare-fun" & word n & list end & w sort & end)

abbrev pub define : List ℕ → String → Sexp → Sexp
define n sort x = list (w "define-fun" & word n & list end & w sort & x & end)

-- a term with a note
abbrev pub noted : Sexp → String → Sexp → Sexp
noted x key v = list (w "!" & x & w key & v & end)

-- a flag or place with what it is after a step
abbrev pub pair_line : String → List ℕ → Sexp
pair_line sort n = define (pair_name n) sort (noted (word n) ":next" (word (next n)))

-- the three lines of a flag or place
unfoldable pub state_lines : String → List ℕ → Sexps
state_lines sort n = declare n sort & declare (next n) sort & pair_line sort n & end

unfoldable pub place_lines : ℕ → ℕ → Sexps
place_lines r i = state_lines "Int" (place_name r i)

-- relation r, which has a places
unfoldable pub relation_lines : ℕ → ℕ → Sexps
relation_lines r a = state_lines "Bool" (flag_name r) ⧺ each a (place_lines r)

unfoldable pub input_line : ℕ → ℕ → Sexps
input_line k i = declare (input_name k i) "Int" & end

-- the variables of clause k
unfoldable pub input_lines : ℕ → Clause → Sexps
input_lines k c = each c.vars (input_line k)

-- ---- `init`, where o is the window of each place

unfoldable pub denied : ℕ → Sexps
denied r = list (w "not" & word (flag_name r) & end) & end

unfoldable pub place_limits : (ℕ → ℕ → Window) → ℕ → ℕ → Sexps
place_limits o r a = each a (λ i. limits (o r i) (place_name r i))

unfoldable pub init_line : (ℕ → ℕ → Window) → List ℕ → Sexp
init_line o arities =
    define (bytes "init") "Bool"
    (noted (list (w "and" & w "true" & (each (length arities) denied ⧺ over 0 arities (place_limits o)))) ":init" (w "true"))

-- ---- the part of clause k in `trans`, where o is the window of each variable

-- a place of relation r is variable v, before the step or after it
unfoldable pub argument : Bool → ℕ → ℕ → ℕ → ℕ → Sexps
argument after k r i v = same (in_state after (place_name r i)) (input_name k v) & end

unfoldable pub atom_items : Bool → ℕ → Atom → Sexps
atom_items after k a = word (in_state after (flag_name a.rel)) & over 0 a.args (argument after k a.rel)

unfoldable pub body_items : ℕ → Option Atom → Sexps
body_items k none = end
body_items k (some a) = atom_items false k a

unfoldable pub kept_place : ℕ → ℕ → Sexps
kept_place r i = kept (place_name r i) & end

-- relation r keeps its flag and its a places
unfoldable pub frame : ℕ → ℕ → Sexps
frame r a = kept (flag_name r) & each a (kept_place r)

abbrev pub pick_items : Bool → Sexps → Sexps → Sexps
pick_items true a b = a
pick_items false a b = b

-- the frame of relation r, unless it is h
unfoldable pub frame_but : ℕ → ℕ → ℕ → Sexps
frame_but h r a = pick_items (eqb r h) end (frame r a)

unfoldable pub input_limits : (ℕ → Window) → ℕ → ℕ → Sexps
input_limits o k i = limits (o i) (input_name k i)

unfoldable pub clause_part : (ℕ → Window) → List ℕ → ℕ → Clause → Sexp
clause_part o arities k c =
    list (w "and" & w "true"
    & (each c.vars (input_limits o k)
    ⧺ (constraint k c.rule
    & (body_items k c.body
    ⧺ (atom_items true k c.head
    ⧺ over 0 arities (frame_but c.head.rel))))))

-- ---- `trans` and `prop`

unfoldable pub clause_part_of : Book → ℕ → Clause → Sexps
clause_part_of b k c = clause_part (variable_window b c) b.arities k c & end

unfoldable pub trans_line : Book → Sexp
trans_line b =
    define (bytes "trans") "Bool"
    (noted (list (w "or" & w "false" & w "false" & over none_such b.clauses (clause_part_of b))) ":trans" (w "true"))

-- the query's flag stays 0
unfoldable pub prop_line : ℕ → Sexp
prop_line q = define (bytes "prop") "Bool" (noted (list (w "not" & word (flag_name q) & end)) ":invar-property" (w "0"))
