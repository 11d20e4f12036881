-- The ways of a check's answer: a test, passed or failed; the goal and the list's length; one part of the answer after another.
use Prim.Native.Nat.{ℕ, ◌<◌, ◌≤◌}
use native.Mathlib.Omega.{arith}
use mathlib.Core.Path.{◌≡◌, refl, sym, ◌∙◌}
use mathlib.Core.List.{List}
use mathlib.Core.Bool.{Bool, true, false}
use lib.ListN.{length, get_or}
use lib.Dec.{ltb, leb, eqb, ltb→lt, eqb→eq}
use lib.IntN.{ℤ}
use borrow.Author.Tests.{lt-ltb, le-ltb, le-leb, lt-leb, eq-eqb, ne_eqb}
use Rattle.meaning.specs.Book.{Book}
use Rattle.reply.specs.declared.Refusal.{Refusal}
use Rattle.reply.specs.Answer as reply
use Rattle.reply.specs.Answer.{need, and_then, refuse, told, Outcome}
use Rattle.reply.specs.Among.{need-ok, told-done, told-no}
use Rattle.lists.specs.Derivation.{judge_goal}
use Rattle.book.specs.declared.Header.{Header}
use Rattle.book.specs.Read.{read}
use Rattle.book.specs.Meaning.{book_in}
use Rattle.book.specs.Arities.{relations-are}
use Rattle.std.specs.Prelude.{Ok, Err}

-- ---- a test, passed or failed

module _ (n i : ℕ) (a : reply.Answer) {x : Outcome} where
  pub need-yes : (t : Bool) {r : Bool} → r ≡ t → r ≡ true → x ≡ told a → x ≡ told (need t n i a)
  unfolding need
  need-yes t p q e = rw (sym p ∙ q) e

  pub need-no : (t : Bool) {r : Bool} → r ≡ t → r ≡ false → x ≡ Err (refuse n i) → x ≡ told (need t n i a)
  unfolding need told
  need-no t p q e = rw (sym p ∙ q) e

  pub need-lt : (k m : ℕ) → k < m → x ≡ told a → x ≡ told (need (ltb k m) n i a)
  need-lt k m h e = need-yes (ltb k m) (sym (lt-ltb k m h)) refl e

  pub need-ge : (k m : ℕ) → m ≤ k → x ≡ Err (refuse n i) → x ≡ told (need (ltb k m) n i a)
  need-ge k m h e = need-no (ltb k m) (sym (le-ltb k m h)) refl e

  pub need-le : (k m : ℕ) → k ≤ m → x ≡ told a → x ≡ told (need (leb k m) n i a)
  need-le k m h e = need-yes (leb k m) (sym (le-leb k m h)) refl e

  pub need-gt : (k m : ℕ) → m < k → x ≡ Err (refuse n i) → x ≡ told (need (leb k m) n i a)
  need-gt k m h e = need-no (leb k m) (sym (lt-leb k m h)) refl e

  pub need-eq : (k m : ℕ) → k ≡ m → x ≡ told a → x ≡ told (need (eqb k m) n i a)
  need-eq k m h e = need-yes (eqb k m) (sym (eq-eqb k m h)) refl e

  pub need-ne : (k m : ℕ) → (k ≡ m → ⊥) → x ≡ Err (refuse n i) → x ≡ told (need (eqb k m) n i a)
  need-ne k m h e = need-no (eqb k m) (sym (ne_eqb k m h)) refl e

pub ends-well : {x : Outcome} → x ≡ Ok 0 → x ≡ told reply.ok
unfolding told
ends-well e = e

-- ---- the goal

module _ (s : List ℕ) (h : Header) (r : ℕ) (vs : List ℤ) {w : ℕ} {x : Outcome} where
  pub goal-absent : read s ≡ Ok h → w ≡ h.relations → w ≤ r → x ≡ Err (refuse 10 0) → x ≡ told (judge_goal (book_in s h) r vs)
  unfolding judge_goal
  goal-absent good v k e = need-ge 10 0 _ r (length (book_in s h).arities) (omega (arith, relations-are s h good)) e

  pub goal-wrong : {m : ℕ} → read s ≡ Ok h → w ≡ h.relations → r < w → m ≡ get_or (book_in s h).arities r 0 → (length vs ≡ m → ⊥) → x ≡ Err (refuse 10 0) →
      x ≡ told (judge_goal (book_in s h) r vs)
  unfolding judge_goal
  goal-wrong good v k u n e = need-lt 10 0 _ r _ (omega (arith, relations-are s h good)) (need-ne 10 0 _ (length vs) _ (λ z. n (z ∙ sym u)) e)

  pub goal-fits : {m : ℕ} → read s ≡ Ok h → w ≡ h.relations → r < w → m ≡ get_or (book_in s h).arities r 0 → length vs ≡ m → x ≡ Ok 0 →
      x ≡ told (judge_goal (book_in s h) r vs)
  unfolding judge_goal
  goal-fits good v k u n e = need-lt 10 0 _ r _ (omega (arith, relations-are s h good)) (need-eq 10 0 _ (length vs) _ (n ∙ u) (ends-well e))

pub ruleset goals = (goal-absent, goal-wrong, goal-fits)

-- a goal that was accepted is of a relation that is there, and has a value for each place
module _ (b : Book) (r : ℕ) (vs : List ℤ) {y : Outcome} {n : ℕ} (p : y ≡ told (judge_goal b r vs)) (q : y ≡ Ok n) where
  pub goal-below : r < length b.arities
  unfolding judge_goal
  goal-below = ltb→lt r (length b.arities) ((need-ok _ _ _ _).0 (told-done _ (sym p ∙ q))).0

  pub goal-full : length vs ≡ get_or b.arities r 0
  unfolding judge_goal
  goal-full = eqb→eq (length vs) (get_or b.arities r 0) ((need-ok _ _ _ _).0 ((need-ok _ _ _ _).0 (told-done _ (sym p ∙ q))).1).0

-- ---- one part of an answer after another

module _ (a b : reply.Answer) {x : Outcome} where
  pub then-stop : {r : Outcome} {g : Refusal} → r ≡ told a → r ≡ Err g → x ≡ Err g → x ≡ told (and_then a b)
  unfolding told and_then
  then-stop {r} {g} p q e = rw (told-no a g (sym p ∙ q)) e

  pub then-on : {r : Outcome} {n : ℕ} → r ≡ told a → r ≡ Ok n → x ≡ told b → x ≡ told (and_then a b)
  unfolding and_then
  then-on p q e = rw (told-done a (sym p ∙ q)) e
