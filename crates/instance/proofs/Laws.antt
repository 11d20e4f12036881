-- The ways of the loops over values, and of judging an instance by its number. `Atoms` beside it has the facts of a step by where they stand.
use Prim.Native.Nat.{ℕ, zero, suc, ◌+◌, ◌-◌, ◌<◌, ◌≤◌}
use native.Mathlib.Nat.{not-suc-le-zero, le_of_suc-le-suc}
use native.Mathlib.Decide.{dec_lt}
use native.Mathlib.Numerals.{add-one}
use native.Mathlib.Omega.{arith}
use mathlib.Core.Path.{◌≡◌, refl, sym, ap, ap₂, ◌∙◌}
use mathlib.Core.Bool.{Bool, true, false, ◌&&◌}
use mathlib.Core.List.{List, [], ◌∷◌, map}
use lib.ListN.{length, get_or, take, drop, length-map, length-drop}
use lib.Seq.{drop-cons, get_or-take, get_or-drop, length-take-le}
use lib.IntN.{ℤ, pos, negsuc}
use borrow.Author.Tests.{lt-ltb, le-ltb, le-leb, lt-leb}
use Rattle.meaning.specs.Constraint.{holds}
use Rattle.meaning.specs.Book.{Book, Clause, Window, variable_window}
use Rattle.reply.specs.declared.Refusal.{Refusal}
use Rattle.reply.specs.Answer.{Answer, refused, ok, need, and_then, refuse, told, giving, Outcome}
use Rattle.reply.specs.Among.{told-done, told-no, giving-no, giving-ok}
use Rattle.lists.specs.Compare.{eq_z, eq_vals, inside, all_in, first_out}
use Rattle.lists.specs.Instance.{clause_number, clause_at, judge_clause, judge, judge_enabled}
use Rattle.lists.specs.Among.{among-judge}
use Rattle.lists.specs.Laws.{judge-exact}
use Rattle.book.specs.declared.Header.{Header}
use Rattle.book.specs.declared.Window as codes
use Rattle.book.specs.Windows.{Windowed, window_of}
use Rattle.book.specs.Read.{read}
use Rattle.book.specs.Meaning.{book_in}
use Rattle.book.specs.Joined.{count-is}
use Rattle.cursor.specs.Meaning.{tree_in}
use Rattle.table.specs.declared.Row.{Row}
use Rattle.table.specs.Table.{IsRow}
use Rattle.instance.specs.Values.{number_or, number_in, values_at, Valued}
use Rattle.std.specs.Prelude.{Result, Ok, Err}

-- ---- two lists of values, compared from number j on

vals-nil : (xs ys : List ℤ) → length xs ≡ 0 → length ys ≡ 0 → eq_vals xs ys ≡ true
unfolding eq_vals
vals-nil [] [] h k = refl
vals-nil [] (y ∷ ys) h k = absurd (let z : ⊥ = omega arith in z)
vals-nil (x ∷ xs) ys h k = absurd (let z : ⊥ = omega arith in z)

module _ (xs ys : List ℤ) (j : ℕ) where
  pub vals-done : length xs ≡ length ys → length xs ≤ j → eq_vals (drop j xs) (drop j ys) ≡ true
  vals-done e h = vals-nil _ _ (rw length-drop (omega arith)) (rw length-drop (omega arith))

  module _ {r : Bool} (h : j < length xs) (k : j < length ys) (q : r ≡ eq_z (get_or xs j (pos 0)) (get_or ys j (pos 0))) where
    pub vals-differ : r ≡ false → eq_vals (drop j xs) (drop j ys) ≡ false
    unfolding eq_vals
    vals-differ e = rw (drop-cons xs j (pos 0) h, drop-cons ys j (pos 0) k, sym q ∙ e)

    pub vals-same : r ≡ true → eq_vals (drop j xs) (drop j ys) ≡ eq_vals (drop (j + 1) xs) (drop (j + 1) ys)
    unfolding eq_vals
    vals-same e = rw (drop-cons xs j (pos 0) h, drop-cons ys j (pos 0) k, sym q ∙ e, add-one j)

-- what the code compared stands for these two
pub same-as : {a b x y : ℤ} {r : Bool} → r ≡ eq_z a b → a ≡ x → b ≡ y → r ≡ eq_z x y
same-as q e f = q ∙ ap₂ eq_z e f

-- ---- values of arguments

map_at : (f : ℕ → ℤ) (xs : List ℕ) (i : ℕ) (d : ℕ) (e : ℤ) → i < length xs → get_or (map f xs) i e ≡ f (get_or xs i d)
map_at f [] i d e h = absurd (not-suc-le-zero h)
map_at f (x ∷ xs) zero d e h = refl
map_at f (x ∷ xs) (suc i) d e h = map_at f xs i d e (le_of_suc-le-suc h)

module _ (l : List ℤ) {s : List ℕ} {p j n : ℕ} (w : Valued s (length l) p j n) where
  args-length : length (take n (drop p s)) ≡ n
  args-length = length-take-le n (drop p s) (rw length-drop (omega (arith, w.there)))

  pub values_length : length (values_at s l p j n) ≡ n
  unfolding values_at
  values_length = length-map (take n (drop p s)) _ ∙ args-length

  pub values-at : (i : ℕ) → i < n → get_or (values_at s l p j n) i (pos 0) ≡ get_or l (j + get_or s (p + i) 0) (pos 0)
  unfolding values_at
  values-at i h =
      map_at _ (take n (drop p s)) i 0 (pos 0) (rw args-length h)
      ∙ ap (λ (x : ℕ). get_or l (j + x) (pos 0)) (get_or-take n (drop p s) i 0 h ∙ get_or-drop p s i 0)

  -- the argument that the code looks up is there
  pub spot-there : (i : ℕ) → i < n → p + i < length s
  spot-there i h = omega (arith, w.there)

-- the value that the code looked up at place m
pub spot-value : (l : List ℤ) {s : List ℕ} {p j n : ℕ} (w : Valued s (length l) p j n) {i m : ℕ} → i < n → m ≡ j + get_or s (p + i) 0 →
    get_or l m (pos 0) ≡ get_or (values_at s l p j n) i (pos 0)
spot-value l w {i} h e = ap (λ (x : ℕ). get_or l x (pos 0)) e ∙ sym (values-at l w i h)

-- and its place
pub spot-inside : (l : List ℤ) {s : List ℕ} {p j n : ℕ} (w : Valued s (length l) p j n) {i m : ℕ} → i < n → m ≡ j + get_or s (p + i) 0 → m < length l
spot-inside l w {i} h e = rw e (w.each i h)

-- ---- values and their windows

out-nil : (w : ℕ → Window) (j : ℕ) → first_out w j [] ≡ j
unfolding first_out
out-nil w j = refl

module _ (w : ℕ → Window) (v : ℤ) (vs : List ℤ) (i : ℕ) where
  out-in : inside (w 0) v ≡ true → first_out w i (v ∷ vs) ≡ first_out (λ j. w (suc j)) (suc i) vs
  unfolding first_out
  out-in e = ap (λ (t : Bool). elim t [ true ↦ first_out (λ j. w (suc j)) (suc i) vs | false ↦ i ]) e

  out-out : inside (w 0) v ≡ false → first_out w i (v ∷ vs) ≡ i
  unfolding first_out
  out-out e = ap (λ (t : Bool). elim t [ true ↦ first_out (λ j. w (suc j)) (suc i) vs | false ↦ i ]) e

-- the first i values of xs lie in their windows
pub record Inside (w : ℕ → Window) (xs : List ℤ) (j : ℕ) : Type 0 where
  pub each : (i : ℕ) → i < j → inside (w i) (get_or xs i (pos 0)) ≡ true

pub inside-none : (w : ℕ → Window) (xs : List ℤ) → Inside w xs 0
inside-none w xs = record { each = λ i h. absurd (not-suc-le-zero h) }

pub inside-more : (w : ℕ → Window) (xs : List ℤ) (j : ℕ) → Inside w xs j → inside (w j) (get_or xs j (pos 0)) ≡ true → Inside w xs (j + 1)
inside-more w xs j e here = record { each = λ i h. go i h (dec_lt i j) }
  where
    go : (i : ℕ) → i < j + 1 → Dec (i < j) → inside (w i) (get_or xs i (pos 0)) ≡ true
    go i h (yes k) = e.each i k
    go i h (no k) = let z : i ≡ j = omega arith in rw z here

inside-rest : (w : ℕ → Window) (x : ℤ) (xs : List ℤ) (j : ℕ) → Inside w (x ∷ xs) (suc j) → Inside (λ i. w (suc i)) xs j
inside-rest w x xs j e = record { each = λ i h. e.each (suc i) (omega arith) }

pub out-all : (w : ℕ → Window) (p : ℕ) (xs : List ℤ) → Inside w xs (length xs) → first_out w p xs ≡ p + length xs
out-all w p [] e = out-nil w p ∙ omega arith
out-all w p (x ∷ xs) e = out-in w x xs p (e.each 0 (omega arith)) ∙ out-all (λ i. w (suc i)) (suc p) xs (inside-rest w x xs (length xs) e) ∙ omega arith

pub out_first : (w : ℕ → Window) (p : ℕ) (xs : List ℤ) (j : ℕ) → j < length xs → Inside w xs j → inside (w j) (get_or xs j (pos 0)) ≡ false → first_out w p xs ≡ p + j
out_first w p [] j h e f = absurd (not-suc-le-zero h)
out_first w p (x ∷ xs) zero h e f = out-out w x xs p f ∙ omega arith
out_first w p (x ∷ xs) (suc j) h e f =
    out-in w x xs p (e.each 0 (omega arith)) ∙ out_first (λ i. w (suc i)) (suc p) xs j (le_of_suc-le-suc h) (inside-rest w x xs j e) f ∙ omega arith

-- what the code found of value j of n that stand from p on, in the window m that it has as x
pub window-inside : (l : List ℤ) (p n j : ℕ) (m : Window) (x : codes.Window) {r b : Bool} → j < n → Windowed m x → r ≡ inside (window_of x) (get_or l (p + j) (pos 0)) → r ≡ b
    → inside m (get_or (take n (drop p l)) j (pos 0)) ≡ b
unfolding inside
window-inside l p n j m x h w q e = rw (get_or-take n (drop p l) j (pos 0) h, get_or-drop p l j (pos 0), ← w.lo, ← w.hi) (sym q ∙ e)

-- all values are inside where none is the first outside
pub all-by : (w : ℕ → Window) (vs : List ℤ) (j : ℕ) → j + length vs ≤ first_out w j vs → all_in w vs ≡ true
unfolding all_in
all-by w [] j h = refl
all-by w (v ∷ vs) j h = go (inside (w 0) v) refl (λ k. all-by (λ i. w (suc i)) vs (suc j) k)
  where
    go : (t : Bool) → inside (w 0) v ≡ t → (suc j + length vs ≤ first_out (λ i. w (suc i)) (suc j) vs → all_in (λ i. w (suc i)) vs ≡ true) → all_in w (v ∷ vs) ≡ true
    go true e ih = ap (λ (b : Bool). b && all_in (λ i. w (suc i)) vs) e ∙ ih (let k : first_out w j (v ∷ vs) ≡ first_out (λ i. w (suc i)) (suc j) vs = out-in w v vs j e in omega arith)
    go false e ih = absurd (let k : first_out w j (v ∷ vs) ≡ j = out-out w v vs j e in let z : ⊥ = omega arith in z)

pub some-by : (w : ℕ → Window) (vs : List ℤ) (j : ℕ) → first_out w j vs < j + length vs → all_in w vs ≡ false
unfolding all_in
some-by w [] j h = absurd (let e : first_out w j [] ≡ j = out-nil w j in let z : ⊥ = omega arith in z)
some-by w (v ∷ vs) j h = go (inside (w 0) v) refl (λ k. some-by (λ i. w (suc i)) vs (suc j) k)
  where
    go : (t : Bool) → inside (w 0) v ≡ t → (first_out (λ i. w (suc i)) (suc j) vs < suc j + length vs → all_in (λ i. w (suc i)) vs ≡ false) → all_in w (v ∷ vs) ≡ false
    go true e ih = ap (λ (b : Bool). b && all_in (λ i. w (suc i)) vs) e ∙ ih (let k : first_out w j (v ∷ vs) ≡ first_out (λ i. w (suc i)) (suc j) vs = out-in w v vs j e in omega arith)
    go false e ih = ap (λ (b : Bool). b && all_in (λ i. w (suc i)) vs) e

-- ---- what an instance answers

module _ (b : Book) (c : Clause) (more : ℕ) (l : List ℤ) (i : ℕ) where
  pub judged-short : length l < c.vars + more → judge_clause b c more l i ≡ refused 13 i
  unfolding judge_clause need
  judged-short h = rw (lt-leb (c.vars + more) (length l) h)

  module _ (h : c.vars + more ≤ length l) {out : ℕ} (q : out ≡ first_out (variable_window b c) (i + 1) (take c.vars l)) where
    long : length (take c.vars l) ≡ c.vars
    long = length-take-le c.vars l (omega arith)

    pub judged-out : out < i + 1 + c.vars → judge_clause b c more l i ≡ refused 14 out
    unfolding judge_clause need
    judged-out k = rw (le-leb (c.vars + more) (length l) h, some-by (variable_window b c) (take c.vars l) (i + 1) (omega (arith, long)), q)

    module _ (k : i + 1 + c.vars ≤ out) {r : Bool} (t : r ≡ holds (take c.vars l) c.rule) where
      all : all_in (variable_window b c) (take c.vars l) ≡ true
      all = all-by (variable_window b c) (take c.vars l) (i + 1) (omega (arith, long))

      pub judged-false : r ≡ false → judge_clause b c more l i ≡ refused 15 i
      unfolding judge_clause need
      judged-false e = rw (le-leb (c.vars + more) (length l) h, all, sym t ∙ e)

      pub judged-true : r ≡ true → judge_clause b c more l i ≡ ok
      unfolding judge_clause need
      judged-true e = rw (le-leb (c.vars + more) (length l) h, all, sym t ∙ e)

-- ---- the clause that a list's number names

module _ (s : List ℕ) (h : Header) (good : read s ≡ Ok h) (l : List ℤ) (i : ℕ) {k : ℕ} (q : k ≡ number_or h.count (get_or l i (pos 0))) where
  pub number_is : number_in s h l i ≡ k
  unfolding clause_number number_or
  number_is = go (get_or l i (pos 0)) ∙ sym q
    where
      go : (z : ℤ) → clause_number (book_in s h) z ≡ number_or h.count z
      go (pos n) = refl
      go (negsuc n) = count-is s h good

  pub judge-none : (more : ℕ) → h.count ≤ k → judge (book_in s h) (number_in s h l i) more (drop (i + 1) l) i ≡ refused 12 i
  unfolding judge need
  judge-none more a = rw (number_is, le-ltb k (length (book_in s h).clauses) (omega (arith, count-is s h good)))

  pub judge-some : (more : ℕ) → k < h.count →
      judge (book_in s h) (number_in s h l i) more (drop (i + 1) l) i ≡ judge_clause (book_in s h) (clause_at (book_in s h) k) more (drop (i + 1) l) i
  unfolding judge need
  judge-some more a = rw (number_is, lt-ltb k (length (book_in s h).clauses) (omega (arith, count-is s h good)))

-- ---- judging, as the code does it by the clause's row

module _ {s : List ℕ} {h : Header} {k : ℕ} {row : Row} (w : IsRow s h k row) (l : List ℤ) (i more : ℕ) (there : i < length l) where
  abbrev the_clause : Clause
  the_clause = clause_at (book_in s h) k

  abbrev answer : Answer
  answer = judge_clause (book_in s h) the_clause more (drop (i + 1) l) i

  abbrev v : ℕ
  v = row.variables

  vars : the_clause.vars ≡ v
  vars = w.vars

  left : length (drop (i + 1) l) ≡ length l - (i + 1)
  left = length-drop (i + 1) l

  pub code-short : length l - (i + 1) < v → answer ≡ refused 13 i
  code-short a = judged-short (book_in s h) the_clause more (drop (i + 1) l) i (omega (arith, vars, left))

  module _ (a : v ≤ length l - (i + 1)) where
    pub code-less : length l - (i + 1) - v < more → answer ≡ refused 13 i
    code-less c = judged-short (book_in s h) the_clause more (drop (i + 1) l) i (omega (arith, vars, left))

    module _ (c : more ≤ length l - (i + 1) - v) {out : ℕ} (q : out ≡ first_out (variable_window (book_in s h) the_clause) (i + 1) (take v (drop (i + 1) l))) where
      room : the_clause.vars + more ≤ length (drop (i + 1) l)
      room = omega (arith, vars, left)

      at-vars : out ≡ first_out (variable_window (book_in s h) the_clause) (i + 1) (take the_clause.vars (drop (i + 1) l))
      at-vars = q ∙ ap (λ (n : ℕ). first_out (variable_window (book_in s h) the_clause) (i + 1) (take n (drop (i + 1) l))) (sym vars)

      pub code_out : out < i + 1 + v → answer ≡ refused 14 out
      code_out d = judged-out (book_in s h) the_clause more (drop (i + 1) l) i room at-vars (omega (arith, vars))

      module _ (d : i + 1 + v ≤ out) {r : Bool} (x : r ≡ holds (take v (drop (i + 1) l)) (tree_in s v row.rule)) where
        at-rule : r ≡ holds (take the_clause.vars (drop (i + 1) l)) the_clause.rule
        at-rule = x ∙ rw (w.rule, w.vars)

        pub code-false : r ≡ false → answer ≡ refused 15 i
        code-false z = judged-false (book_in s h) the_clause more (drop (i + 1) l) i room at-vars (omega (arith, vars)) at-rule z

        pub code-true : r ≡ true → answer ≡ ok
        code-true z = judged-true (book_in s h) the_clause more (drop (i + 1) l) i room at-vars (omega (arith, vars)) at-rule z

-- ---- the code's answer, where what is due is known

module _ {a : Answer} {x : Outcome} where
  pub as-refused : {n p : ℕ} → a ≡ refused n p → x ≡ Err (refuse n p) → x ≡ told a
  unfolding told
  as-refused e q = rw e q

  pub as-ok : a ≡ ok → x ≡ Ok 0 → x ≡ told a
  unfolding told
  as-ok e q = rw e q

-- what goes on with what it gives
module _ {B : Type 0} (a : Answer) (k : B) {x : Result B Refusal} where
  pub giving-refused : {n p : ℕ} → a ≡ refused n p → x ≡ Err (refuse n p) → x ≡ giving a k
  unfolding giving
  giving-refused e q = rw e q

  pub giving-done : a ≡ ok → x ≡ Ok k → x ≡ giving a k
  unfolding giving
  giving-done e q = rw e q

  pub giving-stop : {y : Outcome} {g : Refusal} → y ≡ told a → y ≡ Err g → x ≡ Err g → x ≡ giving a k
  unfolding giving
  giving-stop {y} {g} p q e = rw (told-no a g (sym p ∙ q)) e

  pub giving-on : {y : Outcome} {m : ℕ} → y ≡ told a → y ≡ Ok m → x ≡ Ok k → x ≡ giving a k
  unfolding giving
  giving-on p q e = rw (told-done a (sym p ∙ q)) e

-- ---- a step that may be taken where its body is met, by the answer of its instance

module _ (s : List ℕ) (h : Header) (good : read s ≡ Ok h) (l : List ℤ) (i more : ℕ) {x : Outcome} (e : x ≡ giving (judge (book_in s h) (number_in s h l i) more (drop (i + 1) l) i) (number_in s h l i)) where
  -- it is refused
  pub enabled-stop : (met : Bool) {g : Refusal} → x ≡ Err g → judge_enabled (book_in s h) (number_in s h l i) more (drop (i + 1) l) i met ≡ refused g.number g.place
  unfolding judge_enabled and_then
  enabled-stop met {g} z = rw (giving-no _ _ g (sym e ∙ z))

  module _ {k : ℕ} (z : x ≡ Ok k) where
    both : (judge (book_in s h) (number_in s h l i) more (drop (i + 1) l) i ≡ ok) × (number_in s h l i ≡ k)
    both = giving-ok _ _ (among-judge _ _ _ _ _) (sym e ∙ z)

    instance-ok : judge (book_in s h) (number_in s h l i) more (drop (i + 1) l) i ≡ ok
    instance-ok = both.0

    -- what it gives is its clause
    pub instance-clause : number_in s h l i ≡ k
    instance-clause = both.1

    -- it stands there in full, with what follows it
    pub instance-room : i < length l → (number_in s h l i < h.count) × (i + 1 + (clause_at (book_in s h) (number_in s h l i)).vars + more ≤ length l)
    instance-room there =
        let (one, room) = (judge-exact (book_in s h) (number_in s h l i) more (drop (i + 1) l) i).0 instance-ok in
        (omega (arith, one.there, count-is s h good), omega (arith, room, length-drop (i + 1) l))

    pub enabled-met : (met : Bool) {r : Bool} → r ≡ met → r ≡ true → judge_enabled (book_in s h) (number_in s h l i) more (drop (i + 1) l) i met ≡ ok
    unfolding judge_enabled and_then need
    enabled-met met q t = rw (instance-ok, sym q ∙ t)

    pub enabled-unmet : (met : Bool) {r : Bool} → r ≡ met → r ≡ false → judge_enabled (book_in s h) (number_in s h l i) more (drop (i + 1) l) i met ≡ refused 16 i
    unfolding judge_enabled and_then need
    enabled-unmet met q t = rw (instance-ok, sym q ∙ t)
