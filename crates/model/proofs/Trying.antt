-- One clause's assignments, turn by turn.
use Prim.Native.Nat.{ℕ, zero, suc, ◌+◌, ◌-◌, ◌<◌, ◌≤◌}
use native.Mathlib.Numerals.{sub-one}
use native.Mathlib.Omega.{arith}
use mathlib.Core.Path.{◌≡◌, sym, ap, ◌∙◌}
use mathlib.Core.Bool.{Bool, true, false}
use mathlib.Core.List.{List, ◌∷◌, map}
use lib.ListN.{length, get_or, take, drop, replicate, take-append-drop}
use lib.Seq.{length-take-le}
use lib.IntN.{ℤ, pos}
use Rattle.meaning.specs.Constraint.{Constraint}
use Rattle.meaning.specs.Book as meant
use Rattle.meaning.specs.Book.{Book, Window, none_such}
use Rattle.cursor.specs.Steps.{pick}
use Rattle.cursor.specs.Meaning.{clause_in}
use Rattle.book.specs.Held as held
use Rattle.book.specs.Windows.{window-some}
use Rattle.models.specs.Assignments.{assignments, count}
use Rattle.models.specs.Odometer.{up, run, lows, up-length, up-drop, lows-length, lows-drop, walked}
use Rattle.models.specs.Cap.{cap, cap-small}
use Rattle.models.specs.Walk.{step, breaks, find}
use Rattle.models.specs.Answer.{Reply, slots, outcome}
use Rattle.parts.specs.declared.Task.{Task}
use Rattle.parts.specs.Opened.{constraints}
use Rattle.parts.proofs.Tasks.{task_held, task_few}
use Rattle.model.specs.Reply.{said, windows_of, clause_answer}
use Rattle.std.specs.Prelude.{Err, Ok}

-- sixteen values, those from n on 0
pub record Padded (n : ℕ) (vs : List ℤ) : Type 0 where
  pub size : length vs ≡ 16
  pub rest : drop n vs ≡ replicate (16 - n) (pos 0)

padded-slots : (n : ℕ) (vs : List ℤ) → n ≤ 16 → Padded n vs → slots (take n vs) ≡ vs
padded-slots n vs h p =
    let e : length (take n vs) ≡ n = length-take-le n vs (omega (arith, p.size)) in
    rw (e, ← p.rest) (take-append-drop n vs)

module _ (w : ℕ → Window) (n : ℕ) where
  drop-zeros : (n k : ℕ) → drop n (replicate k (pos 0)) ≡ replicate (k - n) (pos 0)
  drop-zeros zero k = let z : k - 0 ≡ k = omega arith in rw z
  drop-zeros (suc n) zero = let z : 0 - suc n ≡ 0 = omega arith in rw z
  drop-zeros (suc n) (suc k) = let z : suc k - suc n ≡ k - n = omega arith in rw z (drop-zeros n k)

  pub padded-first : {vs : List ℤ} → vs ≡ lows w n (replicate 16 (pos 0)) → Padded n vs
  padded-first e = rw e (record {
    size = lows-length w n (replicate 16 (pos 0));
    rest = lows-drop w n (replicate 16 (pos 0)) n (omega arith) ∙ drop-zeros n 16;
  })

  pub padded-next : (vs : List ℤ) {us : List ℤ} → us ≡ up w n vs → Padded n vs → Padded n us
  padded-next vs e p = rw e (record {
    size = up-length w n vs ∙ p.size;
    rest = up-drop w n vs n (omega arith) ∙ p.rest;
  })

-- ---- what is due: `left` assignments of the task's clause from vs on, where `seen` were examined before them

module _ (t : Task) where
  abbrev b : Book
  b = held.meant t.model.book

  abbrev m : List Constraint
  m = constraints t.model

  abbrev w : ℕ → Window
  w = windows_of t

  abbrev n : ℕ
  n = t.clause.variables

  unfoldable pub due : ℕ → List ℤ → ℕ → Reply
  due left vs seen = outcome (find b m seen (map (step t.number) (run w n left vs)))

  -- all of the clause is due at first
  pub due-first : (before : ℕ) {left : ℕ} {vs : List ℤ} → count w n ≤ 1000000 → left ≡ cap (count w n) → vs ≡ lows w n (replicate 16 (pos 0)) →
      due left vs before ≡ clause_answer t.model t.number before
  unfolding due clause_in
  due-first before {left} {vs} few l v =
      let k = t.model.book in
      let a : assignments w n ≡ run w n (count w n) vs = rw v (walked w n (replicate 16 (pos 0)) (task_few t) (λ i q. window-some k.bytes.now k.header t.number i k.accepted)) in
      let o : left ≡ count w n = l ∙ cap-small _ few in
      let vars : (get_or b.clauses t.number none_such).vars ≡ n = ap (λ (x : meant.Clause). x.vars) (task_held t).is in
      rw (vars, a, o)

  module _ (left : ℕ) (vs : List ℤ) (seen : ℕ) {r : Bool} (some : 0 < left) (q : r ≡ breaks b m (step t.number (take n vs))) where
    split : (n left : ℕ) (vs : List ℤ) → 0 < left → run w n left vs ≡ take n vs ∷ run w n (left - 1) (up w n vs)
    unfolding run
    split n zero vs l = absurd (let z : ⊥ = omega arith in z)
    split n (suc k) vs l = rw sub-one

    -- this one is broken
    pub due-broken : Padded n vs → r ≡ true → said (Err (record { count = seen + 1; clause = t.number; values = vs })) ≡ due left vs seen
    unfolding due find pick outcome said
    due-broken p y = rw (split n left vs some, sym q ∙ y, padded-slots n vs (task_few t) p)

    -- this one is not
    pub due-next : {us : List ℤ} → r ≡ false → us ≡ up w n vs → due (left - 1) us (seen + 1) ≡ due left vs seen
    unfolding due find pick
    due-next y u = rw (split n left vs some, sym q ∙ y, u)

  pub due-none : (left : ℕ) (vs : List ℤ) (seen : ℕ) {x : ℕ} → left ≤ 0 → x ≡ seen → said (Ok x) ≡ due left vs seen
  unfolding due run find outcome said
  due-none left vs seen l e = let z : left ≡ 0 = omega arith in rw (z, e)
