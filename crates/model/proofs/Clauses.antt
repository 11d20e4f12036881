-- One clause after the other.
use Prim.Native.Nat.{ℕ, suc, ◌+◌, ◌<◌, ◌≤◌}
use native.Mathlib.Numerals.{add-one}
use native.Mathlib.Omega.{arith}
use mathlib.Core.Path.{◌≡◌, refl, sym, ap, ◌∙◌}
use mathlib.Core.List.{List, [], ◌∷◌}
use lib.ListN.{length, get_or, take, drop, length-map, take-append-drop, drop_of_length-le}
use lib.Seq.{take-suc, drop-cons}
use Rattle.meaning.specs.Constraint.{Constraint}
use Rattle.meaning.specs.Book as meant
use Rattle.meaning.specs.Book.{Book, variable_window, none_such}
use Rattle.reply.specs.Among.{refused-not}
use Rattle.cursor.specs.Meaning.{clause_in}
use Rattle.book.specs.Held as held
use Rattle.book.specs.Joined.{count-is}
use Rattle.models.specs.Assignments.{assignments, count}
use Rattle.models.specs.Order.{assignments-count}
use Rattle.models.specs.Walk.{step, tries, tries_from, walk, sum, total, Finding, clean, broken, find, find_then}
use Rattle.models.proofs.Found.{sum-append, find-clean, find-append}
use Rattle.models.specs.Answer.{Reply, outcome}
use Rattle.parts.specs.declared.Model.{Model}
use Rattle.parts.specs.declared.Task.{Task}
use Rattle.parts.specs.Opened.{constraints}
use Rattle.parts.proofs.Tasks.{task_held}
use Rattle.model.specs.declared.Broken.{Broken}
use Rattle.model.specs.Reply.{said, windows_of, clause_answer, walk_answer}
use Rattle.std.specs.Prelude.{Ok, Err}

-- ---- one stretch after another

module _ (go : ℕ → Finding) where
  stretch-stop : (f : Finding) (g : Broken) → said (Err g) ≡ outcome f → said (Err g) ≡ outcome (find_then f go)
  unfolding outcome find_then said
  stretch-stop (clean n) g e = absurd (refused-not (ap (λ (x : Reply). x.answer) e))
  stretch-stop (broken n s) g e = e

  stretch-more : (f : Finding) (m : ℕ) → said (Ok m) ≡ outcome f → outcome (go m) ≡ outcome (find_then f go)
  unfolding outcome find_then said
  stretch-more (clean n) m e = let z : m ≡ n = ap (λ (x : Reply). x.count) e in rw z
  stretch-more (broken n s) m e = absurd (refused-not (sym (ap (λ (x : Reply). x.answer) e)))

stretch-clean : (f : Finding) (m : ℕ) → said (Ok m) ≡ outcome f → f ≡ clean m
unfolding outcome said
stretch-clean (clean n) m e = let z : m ≡ n = ap (λ (x : Reply). x.count) e in rw z
stretch-clean (broken n s) m e = absurd (refused-not (sym (ap (λ (x : Reply). x.answer) e)))

-- ---- the clauses

module _ (b : Book) (m : List Constraint) where
  -- what is due from clause k on
  unfoldable pub rest : ℕ → ℕ → Reply
  rest seen k = outcome (find b m seen (tries_from b k (drop k b.clauses)))

  rest-none : (seen k : ℕ) → length b.clauses ≤ k → said (Ok seen) ≡ rest seen k
  unfolding rest tries_from find outcome said
  rest-none seen k h = rw (drop_of_length-le b.clauses h)

  module _ (seen k : ℕ) (h : k < length b.clauses) where
    abbrev c : meant.Clause
    c = get_or b.clauses k none_such

    abbrev here : Finding
    here = find b m seen (tries b k c)

    split : rest seen k ≡ outcome (find_then here (λ n. find b m n (tries_from b (k + 1) (drop (k + 1) b.clauses))))
    unfolding rest tries_from
    split = rw (drop-cons b.clauses k none_such h, add-one k, find-append b m seen (tries b k c) (tries_from b (suc k) (drop (suc k) b.clauses)))

    rest-stop : (g : Broken) → said (Err g) ≡ outcome here → said (Err g) ≡ rest seen k
    rest-stop g e = stretch-stop _ here g e ∙ sym split

    rest-more : (n : ℕ) → said (Ok n) ≡ outcome here → rest n (k + 1) ≡ rest seen k
    unfolding rest
    rest-more n e = stretch-more _ here n e ∙ sym split

    seen-more : (n : ℕ) → said (Ok n) ≡ outcome here → seen ≡ sum b (take k b.clauses) → n ≡ sum b (take (k + 1) b.clauses)
    unfolding sum
    seen-more n e q =
        let x = (find-clean b m seen (tries b k c) n (stretch-clean here n e)).0 in
        let w = variable_window b c in
        rw (add-one k, take-suc b.clauses k none_such h)
        (omega (arith, x, q, sum-append b (take k b.clauses) (c ∷ []), length-map (assignments w c.vars) (step k), assignments-count w c.vars))

  -- a part is no more than all
  seen-small : (k : ℕ) → sum b (take k b.clauses) ≤ total b
  unfolding total
  seen-small k = omega (arith, rw (take-append-drop k b.clauses) at (sum-append b (take k b.clauses) (drop k b.clauses)))

  clause-small : (k : ℕ) → k < length b.clauses → count (variable_window b (get_or b.clauses k none_such)) (get_or b.clauses k none_such).vars ≤ total b
  unfolding total sum
  clause-small k h =
      let x = rw (take-append-drop k b.clauses) at (sum-append b (take k b.clauses) (drop k b.clauses)) in
      omega (arith, x, ap (sum b) (drop-cons b.clauses k none_such h))

-- a task's clause has no more assignments than there are
pub task_small : (t : Task) → total (held.meant t.model.book) ≤ 1000000 → count (windows_of t) t.clause.variables ≤ 1000000
unfolding clause_in
task_small t few =
    let k = t.model.book in
    let b = held.meant k in
    let x = clause-small b [] t.number (omega (arith, count-is k.bytes.now k.header k.accepted, t.taken.below)) in
    let vars : (get_or b.clauses t.number none_such).vars ≡ t.clause.variables = ap (λ (y : meant.Clause). y.vars) (task_held t).is in
    let y = rw vars at x in omega (arith, y)

-- the same of a model that was read, where the code's tests are of the header's count
module _ (m : Model) where
  abbrev b : Book
  b = held.meant m.book

  -- what is due from clause k on, and how many were examined before it
  pub record Due (seen k : ℕ) : Type 0 where
    pub before : seen ≡ sum b (take k b.clauses)
    pub left : rest b (constraints m) seen k ≡ walk_answer m

  abbrev pub long : length b.clauses ≡ m.book.header.count
  long = count-is m.book.bytes.now m.book.header m.book.accepted

  pub due-none : Due 0 0
  unfolding sum rest walk
  due-none = record { before = refl; left = refl }

  pub due-small : (seen k : ℕ) → Due seen k → total b ≤ 1000000 → seen ≤ 1000000
  due-small seen k d l = omega (arith, d.before, seen-small b (constraints m) k)

  module _ (seen k : ℕ) (h : k < m.book.header.count) (d : Due seen k) where
    there : k < length b.clauses
    there = omega (arith, long)

    pub due-stop : (g : Broken) → said (Err g) ≡ clause_answer m k seen → said (Err g) ≡ walk_answer m
    due-stop g e = rest-stop b (constraints m) seen k there g e ∙ d.left

    pub due-more : (n : ℕ) → said (Ok n) ≡ clause_answer m k seen → Due n (k + 1)
    due-more n e = record {
      before = seen-more b (constraints m) seen k there n e d.before;
      left = rest-more b (constraints m) seen k there n e ∙ d.left;
    }

  pub due-all : (seen k : ℕ) → m.book.header.count ≤ k → Due seen k → said (Ok seen) ≡ walk_answer m
  due-all seen k h d = rest-none b (constraints m) seen k (omega (arith, long)) ∙ d.left
