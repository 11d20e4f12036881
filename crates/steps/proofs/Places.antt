-- The starts of a list's steps, and the row of each one's clause.
use mathlib.Core.Path.{◌≡◌, ap}
use mathlib.Core.List.{List}
use Prim.Native.Nat.{ℕ, zero, suc, ◌+◌, ◌*◌, ◌≤◌, ◌<◌}
use native.Mathlib.Nat.{add-zero, add-suc}
use native.Mathlib.Omega.{arith}
use lib.ListN.{length}
use lib.IntN.{ℤ}
use Rattle.meaning.specs.Book.{Book}
use Rattle.lists.specs.Places.{after, start, start-next}
use Rattle.book.specs.declared.Header.{Header}
use Rattle.book.specs.Meaning.{book_in}
use Rattle.book.specs.Joined.{count-is}
use Rattle.steps.specs.Walk.{Here, Walk}

module _ (b : Book) (z : ℕ) (l : List ℤ) (i : ℕ) where
  pub start-add : (j k : ℕ) → start b z l i (j + k) ≡ start b z l (start b z l i j) k
  unfolding start
  start-add j zero = rw (add-zero j)
  start-add j (suc k) = rw (add-suc j k) (ap (after b z l) (start-add j k))

  -- a step has two numbers at least
  pub start-far : 1 ≤ z → (j k : ℕ) → start b z l i j + k * 2 ≤ start b z l i (j + k)
  unfolding start
  start-far h j zero = rw (add-zero j) (omega arith)
  start-far h j (suc k) = rw (add-suc j k) (omega (arith, start-far h j k))

  pub start-long : 1 ≤ z → (k : ℕ) → i + k * 2 ≤ start b z l i k
  unfolding start
  start-long h zero = omega arith
  start-long h (suc k) = omega (arith, start-long h k)

-- ---- the steps of a walk

module _ (s : List ℕ) (h : Header) (l : List ℤ) (z : ℕ) where
  pub here-at : {i : ℕ} → Walk s h l z i → (k p : ℕ) → p ≡ start (book_in s h) z l i k → p < length l → Here s h l z p
  here-at {i} w k p e q =
      let (one, full) = w.steps k (rw e at q) in
      record {
        good = w.good;
        inside = q;
        there = rw e (omega (arith, one.there, count-is s h w.good));
        whole = rw e (omega (arith, full, start-next (book_in s h) z l i k));
      }

  pub walk_from : {i : ℕ} → Walk s h l z i → (j : ℕ) → Walk s h l z (start (book_in s h) z l i j)
  walk_from {i} w j = record {
    good = w.good;
    steps = λ k q.
        let more : j + (k + 1) ≡ j + k + 1 = omega arith in
        rw (← (start-add (book_in s h) z l i j k), ← (start-add (book_in s h) z l i j (k + 1)), more) (w.steps (j + k) (rw (start-add (book_in s h) z l i j k) q));
  }
