-- The words of the printed text are names, so that reading the text gives back the lines that were printed.
use Rattle.std.specs.Prelude.{◌≡◌, refl, List, [], ◌∷◌, ◌++◌, Bool, true, false, ℕ, suc, ◌+◌, ◌%◌, ◌<◌, eqb, ℤ, pos, negsuc, length, get_or}
use Rattle.std.proofs.Math.Option.{Option, none, some}
use Rattle.std.proofs.Common.{arith, ne_eqb}
use Rattle.meaning.specs.Constraint.{Sum, Constraint, truth, at_most, equal, not, and, or, remainder}
use Rattle.meaning.specs.Book.{Atom, Clause, Book, Window, none_such, place_window, variable_window}
use Rattle.sexp.specs.Bytes.{bytes}
use Rattle.sexp.specs.Sexp.{end, each, over}
use Rattle.sexp.specs.Parse.{kind_of, is_letter, letters, is_name, plain, plains, parse}
use Rattle.sexp.specs.Back.{plains-and, plains-each, letters-append, parse-lines}
use Rattle.put.specs.Digits.{digits, digits-by}
use Rattle.put.specs.Number.{num}
use Rattle.script.specs.Names.{flag_name, place_name, input_name, next, in_state, pair_name}
use Rattle.script.specs.Terms.{limits, same, product, sum, compared, remains, constraint}
use Rattle.script.specs.Lines.{state_lines, place_lines, relation_lines, input_line, input_lines, denied, place_limits, init_line, argument, atom_items, body_items, kept_place, frame, pick_items, frame_but, input_limits, clause_part, clause_part_of, trans_line, prop_line}
use Rattle.script.specs.Text.{script, text}

-- ---- names and numbers

digit-letter : (n : ℕ) → n < 10 → is_letter (kind_of (n + 48)) ≡ true
unfolding kind_of is_letter
digit-letter n h =
    simp (
      ne_eqb (n + 48) 40 (λ e. omega arith),
      ne_eqb (n + 48) 41 (λ e. omega arith),
      ne_eqb (n + 48) 32 (λ e. omega arith),
      ne_eqb (n + 48) 10 (λ e. omega arith),
      ne_eqb (n + 48) 9 (λ e. omega arith),
      ne_eqb (n + 48) 13 (λ e. omega arith),
      ne_eqb (n + 48) 34 (λ e. omega arith),
      ne_eqb (n + 48) 59 (λ e. omega arith),
      ne_eqb (n + 48) 124 (λ e. omega arith),
    )

-- letters, and at least one of them
name-append : (s t : List ℕ) → is_name s ≡ true → letters t ≡ true → is_name (s ++ t) ≡ true
unfolding is_name letters
name-append [] t p q = absurd (let z : ◌≡◌ {A = ℕ} 0 1 = cc in let v : ⊥ = omega arith in v)
name-append (b ∷ s) t p q = letters-append (b ∷ s) t p q

name-letters : (t : List ℕ) → is_name t ≡ true → letters t ≡ true
unfolding is_name letters
name-letters [] h = refl
name-letters (b ∷ t) h = h

pub name-digits : (n : ℕ) → is_name (digits n) ≡ true
unfolding is_name letters
name-digits = digits-by (λ n t. is_name t ≡ true) (λ n l. rw (digit-letter n l))
    (λ n t h e. name-append t ((n % 10 + 48) ∷ []) e (rw (digit-letter (n % 10) (omega arith))))

letters-digits : (n : ℕ) → letters (digits n) ≡ true
letters-digits n = name-letters (digits n) (name-digits n)

-- a letter, a number, and another number
name-two : (b m n : ℕ) → is_letter (kind_of b) ≡ true → is_name (b ∷ digits m ++ bytes "_" ++ digits n) ≡ true
unfolding is_name letters kind_of is_letter
name-two b m n h = rw h (letters-append (digits m ++ bytes "_") (digits n) (letters-append (digits m) (bytes "_") (letters-digits m) refl) (letters-digits n))

pub name-flag : (r : ℕ) → is_name (flag_name r) ≡ true
unfolding flag_name is_name kind_of is_letter
name-flag r = letters-digits r

pub name-place : (r i : ℕ) → is_name (place_name r i) ≡ true
unfolding place_name kind_of is_letter
name-place r i = name-two 112 r i refl

pub name-input : (k i : ℕ) → is_name (input_name k i) ≡ true
unfolding input_name kind_of is_letter
name-input k i = name-two 121 k i refl

name-next : (n : List ℕ) → is_name n ≡ true → is_name (next n) ≡ true
unfolding next letters kind_of is_letter
name-next n h = name-append n (bytes "n") h refl

name-state : (after : Bool) (n : List ℕ) → is_name n ≡ true → is_name (in_state after n) ≡ true
unfolding in_state
name-state false n h = h
name-state true n h = name-next n h

name-pair : (n : List ℕ) → is_name n ≡ true → is_name (pair_name n) ≡ true
unfolding pair_name is_name kind_of is_letter
name-pair n h = name-letters n h

pub plain-num : (z : ℤ) → plain (num z) ≡ true
unfolding num plain is_name kind_of is_letter letters
plain-num (pos n) = name-digits n
plain-num (negsuc n) = rw (name-digits (suc n))

-- ---- terms

module _ (n : List ℕ) (h : is_name n ≡ true) where
  plain-limits : (o : Window) → plains (limits o n) ≡ true
  unfolding limits plain is_name kind_of is_letter letters
  plain-limits o = rw (plain-num o.lo, h, plain-num o.hi)

  plain-same : (m : List ℕ) → is_name m ≡ true → plain (same n m) ≡ true
  unfolding same plain is_name kind_of is_letter letters
  plain-same m g = rw (h, g)

  plain-kept : plain (same (next n) n) ≡ true
  unfolding same plain is_name kind_of is_letter letters
  plain-kept = rw (name-next n h, h)

plain-product : (k i : ℕ) (c : ℤ) → plains (product k i c) ≡ true
unfolding product plain is_name kind_of is_letter letters
plain-product k i c = rw (plain-num c, name-input k i)

plain-sum : (k : ℕ) (s : Sum) → plain (sum k s) ≡ true
unfolding sum plain is_name kind_of is_letter letters
plain-sum k s = rw (plain-num s.constant) (plains-each (length s.coefficients) _ (λ i l. plain-product k i _))

pub plain-constraint : (k : ℕ) (t : Constraint) → plain (constraint k t) ≡ true
unfolding constraint compared remains plain is_name kind_of is_letter letters
plain-constraint k truth = refl
plain-constraint k (at_most s) = rw (plain-sum k s)
plain-constraint k (equal s) = rw (plain-sum k s)
plain-constraint k (not t) = rw (plain-constraint k t)
plain-constraint k (and t u) = rw (plain-constraint k t, plain-constraint k u)
plain-constraint k (or t u) = rw (plain-constraint k t, plain-constraint k u)
plain-constraint k (remainder s d r) = simp (plain-sum k s, name-digits d, name-digits r)

-- ---- lines

plain-state : (n : List ℕ) → is_name n ≡ true → (plains (state_lines "Bool" n) ≡ true) × (plains (state_lines "Int" n) ≡ true)
unfolding state_lines plain is_name kind_of is_letter letters
plain-state n h = let g = name-next n h in let p = name-pair n h in (simp (h, g, p), simp (h, g, p))

plain-relation : (r a : ℕ) → plains (relation_lines r a) ≡ true
unfolding relation_lines place_lines
plain-relation r a = plains-and _ _ (plain-state (flag_name r) (name-flag r)).0 (plains-each a _ (λ i l. (plain-state (place_name r i) (name-place r i)).1))

plain_inputs : (k : ℕ) (c : Clause) → plains (input_lines k c) ≡ true
unfolding input_lines input_line plain is_name kind_of is_letter letters
plain_inputs k c = plains-each c.vars _ (λ i l. rw (name-input k i))

plain-init : (o : ℕ → ℕ → Window) (arities : List ℕ) → plain (init_line o arities) ≡ true
unfolding init_line denied place_limits plain is_name kind_of is_letter letters
plain-init o arities =
    rw (plains-and (each (length arities) denied) (over 0 arities (place_limits o))
    (plains-each (length arities) denied (λ r l. rw (name-flag r)))
    (plains-each (length arities) _ (λ r l. plains-each (get_or arities r 0) _ (λ i l. plain-limits (place_name r i) (name-place r i) (o r i)))))

plain-atom : (after : Bool) (k : ℕ) (a : Atom) → plains (atom_items after k a) ≡ true
unfolding atom_items argument plain
plain-atom after k a =
    rw (name-state after (flag_name a.rel) (name-flag a.rel))
    (plains-each (length a.args) _ (λ i l. rw (plain-same (in_state after (place_name a.rel i)) (name-state after (place_name a.rel i) (name-place a.rel i)) (input_name k _) (name-input k _))))

plain_body : (k : ℕ) (a : Option Atom) → plains (body_items k a) ≡ true
unfolding body_items plain
plain_body k none = refl
plain_body k (some a) = plain-atom false k a

plain-frame : (r a : ℕ) → plains (frame r a) ≡ true
unfolding frame kept_place plain
plain-frame r a = rw (plain-kept (flag_name r) (name-flag r)) (plains-each a _ (λ i l. rw (plain-kept (place_name r i) (name-place r i))))

plain-but : (h r a : ℕ) → plains (frame_but h r a) ≡ true
unfolding frame_but plain
plain-but h r a = picked (eqb r h)
  where
    picked : (t : Bool) → plains (pick_items t end (frame r a)) ≡ true
    picked true = refl
    picked false = plain-frame r a

plain-part : (o : ℕ → Window) (arities : List ℕ) (k : ℕ) (c : Clause) → plain (clause_part o arities k c) ≡ true
unfolding clause_part input_limits plain is_name kind_of is_letter letters
plain-part o arities k c =
    plains-and (each c.vars (input_limits o k)) _ (plains-each c.vars (input_limits o k) (λ i l. plain-limits (input_name k i) (name-input k i) (o i)))
    (rw (plain-constraint k c.rule)
    (plains-and (body_items k c.body) _ (plain_body k c.body)
    (plains-and (atom_items true k c.head) _ (plain-atom true k c.head)
    (plains-each (length arities) _ (λ r l. plain-but c.head.rel r (get_or arities r 0))))))

plain-part-of : (b : Book) (k : ℕ) (c : Clause) → plains (clause_part_of b k c) ≡ true
unfolding clause_part_of plain
plain-part-of b k c = rw (plain-part (variable_window b c) b.arities k c)

plain-trans : (b : Book) → plain (trans_line b) ≡ true
unfolding trans_line plain is_name kind_of is_letter letters
plain-trans b = rw (plains-each (length b.clauses) (λ k. clause_part_of b k (get_or b.clauses k none_such)) (λ k l. plain-part-of b k _))

plain-prop : (q : ℕ) → plain (prop_line q) ≡ true
unfolding prop_line plain is_name kind_of is_letter letters
plain-prop q = rw (name-flag q)

pub plain-script : (b : Book) → plains (script b) ≡ true
unfolding script plain
plain-script b =
    plains-and (over 0 b.arities relation_lines) _ (plains-each (length b.arities) _ (λ r l. plain-relation r _))
    (plains-and (over none_such b.clauses input_lines) _ (plains-each (length b.clauses) _ (λ k l. plain_inputs k _))
    (rw (plain-init (place_window b) b.arities, plain-trans b, plain-prop b.query)))

-- parsing the text of a book gives back the list that was rendered
pub parse-text : (b : Book) → parse (text b) ≡ some (script b)
unfolding text
parse-text b = parse-lines (script b) (plain-script b)
