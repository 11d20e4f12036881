-- The text of an accepted book is shorter than the largest position.
use mathlib.Core.Path.{◌≡◌}
use mathlib.Core.Logic.{⊎_elim}
use mathlib.Core.List.{List}
use mathlib.Core.Option.{none, some}
use Prim.Native.Nat.{ℕ, suc, ◌+◌, ◌-◌, ◌*◌, ◌≤◌, ◌<◌}
use native.Mathlib.Nat.{le_trans}
use native.Mathlib.Omega.{arith}
use lib.IntN.{ℤ, nat_abs}
use lib.ListN.{length, get_or, take, drop, length-take, get_or-eq_default}
use lib.Pow.{pow_pos}
use lib.Seq.{get_or-take, get_or-drop}
use lib.Dec.{eqb}
use mir.Syntax.{w16, w32}
use mir.Facts.{sfits_to_z}
use Rattle.whole.specs.Whole.{lt-or-le, fits-small}
use Rattle.whole.specs.Bytes.{u16_at, u32_at, i16_at, i32_at}
use Rattle.meaning.specs.Book as meant
use Rattle.meaning.specs.Constraint.{Constraint}
use Rattle.cursor.specs.declared.Cursor.{Cursor}
use Rattle.cursor.specs.declared.Clause.{Clause}
use Rattle.cursor.specs.Tree.{sum_of}
use Rattle.cursor.specs.Inverse.{Keeps, tree-by, pick-by}
use Rattle.cursor.specs.Sound.{IsTree, Sound}
use Rattle.cursor.specs.Meaning.{atom_in, body_in, tree_of, tree_in, clause_in}
use Rattle.book.specs.declared.Header.{Header}
use Rattle.book.specs.Read.{read}
use Rattle.book.specs.Meaning.{book_in}
use Rattle.book.specs.Joined.{record-read, held, count-is}
use Rattle.book.specs.Trailer.{read-trailed}
use Rattle.book.specs.Arities.{arities-are, relations-are}
use Rattle.book.specs.Windows.{places-keep, variables-keep}
use Rattle.put.specs.Room.{top}
use Rattle.script.specs.Text.{text}
use Rattle.script.specs.Size.{Short, SmallWindow, SmallSum, SmallAtom, SmallBody, SmallClause, SmallBook, Bound, truth-size, at_most_size, equal-size, remainder-size, not-size, and-size, or-size, text-size}
use Rattle.term.proofs.Laws.{coefficient-at, coefficients-count}
use Rattle.std.specs.Prelude.{Ok}

-- every element is a byte
abbrev Bytes : List ℕ → Type 0
Bytes s = (i : ℕ) → get_or s i 0 < 256

bytes_take : (s : List ℕ) (j : ℕ) → Bytes s → Bytes (take j s)
bytes_take s j h i = ⊎_elim
    (λ (l : i < j). rw (get_or-take j s i 0 l) (h i))
    (λ (l : j ≤ i). let e : get_or (take j s) i 0 ≡ 0 = get_or-eq_default (take j s) 0 (omega (arith, length-take j s)) in omega arith)
    (lt-or-le i j)

bytes_drop : (s : List ℕ) (j : ℕ) → Bytes s → Bytes (drop j s)
bytes_drop s j h i = rw (get_or-drop j s i 0) (h (j + i))

-- ---- numbers and trees

module _ (s : List ℕ) (bytes : Bytes s) where
  u16-below : (p : ℕ) → u16_at s p < 65536
  unfolding u16_at
  u16-below p = omega (arith, bytes p, bytes (p + 1))

  u32-below : (p : ℕ) → u32_at s p < 4294967296
  unfolding u32_at
  u32-below p = omega (arith, u16-below p, u16-below (p + 2))

  i16-short : (p : ℕ) → Short (nat_abs (i16_at s p))
  unfolding i16_at
  i16-short p = let k = fits-small {w = w16} (sfits_to_z {w = w16} (record { fits = u16-below p })) in omega (arith, k.abs)

  i32-short : (p : ℕ) → Short (nat_abs (i32_at s p))
  unfolding i32_at
  i32-short p = let k = fits-small {w = w32} (sfits_to_z {w = w32} (record { fits = u32-below p })) in omega (arith, k.abs)

  sum-small : (v p : ℕ) → v ≤ 16 → SmallSum (sum_of s v p)
  unfolding sum_of
  sum-small v p h = record {
    count = omega (arith, coefficients-count v s p);
    coefficients = λ i l.
        let k : i < v = omega (arith, coefficients-count v s p) in
        rw (coefficient-at v s p i k) (i16-short (p + i * 2));
    constant = i32-short (p + v * 2);
  }

  module _ (v : ℕ) (few : v ≤ 16) (k : ℕ) (short : Short k) where
    abbrev Bounded : ℕ → Cursor → Constraint → Cursor → Type 0
    Bounded d c t e = Bound k short d t

    keeps : Keeps s v Bounded
    keeps = record {
      truths = λ {d} _. truth-size k short (suc d) (pow_pos (suc d));
      at-mosts = λ {d} {c} {i} _ _. at_most_size k short (suc d) (sum_of s v i.at) (pow_pos (suc d)) (sum-small v i.at few);
      equals = λ {d} {c} {i} _ _. equal-size k short (suc d) (sum_of s v i.at) (pow_pos (suc d)) (sum-small v i.at few);
      nots = λ {d} {c} {i} {e} {t} _ p. not-size k short d (pow_pos d) t t p;
      ands = λ {d} {c} {i} {j} {e} {t} {u} _ p q. and-size k short d (pow_pos d) t u p q;
      ors = λ {d} {c} {i} {j} {e} {t} {u} _ p q. or-size k short d (pow_pos d) t u p q;
      remainders = λ {d} {c} {i} {e} {m} _ w.
          remainder-size k short (suc d) (sum_of s v i.at) m.d m.r (pow_pos (suc d)) (sum-small v i.at few)
          (omega (arith, w.divisor, u16-below (i.at + (v * 2 + 4)))) (omega (arith, w.less, w.divisor, u16-below (i.at + (v * 2 + 4))));
    }

    tree-bound : (p : ℕ) → IsTree s v p → Bound k short 16 (tree_in s v p)
    unfolding tree_in tree_of
    tree-bound p w = rw w.reads (tree-by s v Bounded keeps 16 (record { at = p; left = 64 }) w.reads)

  -- ---- clauses

  atom-small : (b p : ℕ) → Short b → SmallAtom (atom_in s b p)
  unfolding atom_in
  atom-small b p h = record {
    rel = h;
    count = omega (arith, length-take (get_or s b 0) (drop (p + 1) s), bytes b);
    args = λ i l. omega (arith, bytes_take (drop (p + 1) s) (get_or s b 0) (bytes_drop s (p + 1) bytes) i);
  }

  body-small : (b p : ℕ) → Short b → SmallBody (body_in s b p)
  unfolding body_in SmallBody
  body-small b p h = pick-by SmallBody (eqb b 255) none (some (atom_in s b p)) (λ _. tt) (λ _. atom-small b p h)

  clause-small : (n : ℕ) (l : Clause) → n ≤ 16 → Sound s n l → SmallClause (clause_in s l)
  unfolding clause_in
  clause-small n l h w =
      let few : l.variables ≤ 16 = omega (arith, w.few) in
      record {
        vars = few;
        body = body-small l.body l.body_at (⊎_elim (λ e. omega arith) (λ p. omega (arith, p.0)) w.body);
        head = atom-small l.head l.head_at (omega (arith, w.head));
        rule = λ k short. tree-bound l.variables few k short l.rule w.tree;
      }

-- ---- the book

module _ (s : List ℕ) (h : Header) (bytes : Bytes s) (good : read s ≡ Ok h) where
  window-small : SmallWindow (record { lo = h.lo; hi = h.hi })
  window-small =
      let t = read-trailed s h good in
      record { lo = rw t.lo (i32-short s bytes (length s - 16)); hi = rw t.hi (i32-short s bytes (length s - 16 + 4)) }

  each-small : (k : ℕ) → k < h.count → SmallClause (get_or (book_in s h).clauses k meant.none_such)
  each-small k l =
      let t = read-trailed s h good in
      let r = record-read s h good k l in
      let w = held s h good k l r.clause r.past r.reads in
      rw w.is (clause-small (take h.start s) (bytes_take s h.start bytes) h.relations r.clause t.kept.few w.sound)

  book-small : SmallBook (book_in s h)
  unfolding book_in
  book-small =
      let t = read-trailed s h good in
      let k = t.kept in
      let small : ℤ → Type 0 = λ z. Short (nat_abs z) in
      record {
        relations = omega (arith, relations-are s h good);
        arities = λ r. rw (arities-are s h good) (omega (arith, bytes_take s h.relations bytes r));
        clauses = rw (count-is s h good) k.count;
        each = λ i l. each-small i (rw (count-is s h good) at l);
        places = λ r i. let w = places-keep small s h window-small.lo window-small.hi r i in record { lo = w.0; hi = w.1 };
        variables = λ c i. let w = variables-keep small s h window-small.lo window-small.hi c i in record { lo = w.0; hi = w.1 };
        query = omega arith;
      }

  pub text-small : length (text (book_in s h)) ≤ top
  text-small = le_trans (text-size (book_in s h) book-small) (omega arith)
