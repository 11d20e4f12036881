-- The ways of judging the first state of a trace.
use Prim.Native.Nat.{ℕ, ◌+◌, ◌<◌, ◌≤◌}
use native.Mathlib.Omega.{arith}
use mathlib.Core.Path.{◌≡◌, sym, ap, ◌∙◌}
use mathlib.Core.Bool.{false}
use mathlib.Core.List.{List, map}
use lib.ListN.{length, take, drop, replicate, length-drop}
use lib.Dec.{leb, leb→le}
use lib.IntN.{ℤ}
use borrow.Author.Tests.{le-leb, lt-leb}
use Rattle.meaning.specs.Book.{Fact, place_window}
use Rattle.meaning.specs.State.{bit, flags}
use Rattle.lists.specs.Compare.{eq_vals, first_diff}
use Rattle.lists.specs.Trace.{sum, cut, all_rows, first_out_rows, width, size, first_of, judge_first, check_walk}
use Rattle.lists.specs.Due.{walk_due, walk-due-all}
use Rattle.reply.specs.Among.{need-ok, told-done}
use Rattle.reply.specs.declared.Refusal.{Refusal}
use Rattle.reply.specs.Answer.{refuse, told, Outcome}
use Rattle.book.specs.declared.Header.{Header}
use Rattle.book.specs.Read.{read}
use Rattle.book.specs.Meaning.{book_in}
use Rattle.book.specs.Arities.{relations-are}
use Rattle.asked.proofs.Judge.{need-yes, need-no, need-le, need-gt, ends-well, then-stop, then-on}
use Rattle.state.specs.State.{front, Sized}
use Rattle.state.specs.Laws.{front-replicate, bits-length}
use Rattle.state.proofs.Shape.{size_is}
use Rattle.state.proofs.Difference.{diff-all}
use Rattle.state.proofs.Rows.{rows_all}
use Rattle.std.specs.Prelude.{Ok, Err}

module _ (s : List ℕ) (h : Header) (l : List ℤ) (more : ℕ) (good : read s ≡ Ok h) (z : Sized (book_in s h) flags more) where
  pub first_short : {x : Outcome} → length l < more → x ≡ Err (refuse 13 0) → x ≡ told (judge_first (book_in s h) flags l)
  unfolding judge_first
  first_short k e = need-gt 13 0 _ (size (book_in s h) flags) (length l) (rw (← z.is) k) e

  pub first-long : {y : Outcome} {k : ℕ} → y ≡ told (judge_first (book_in s h) flags l) → y ≡ Ok k → more ≤ length l
  unfolding judge_first
  first-long p q = rw z.is (leb→le (size (book_in s h) flags) (length l) ((need-ok _ _ _ _).0 (told-done _ (sym p ∙ q))).0)

  -- d is the first flag that is set, among n
  module _ (n : ℕ) {d : ℕ} (k : n ≡ h.relations) (long : more ≤ length l) (p : d ≡ first_diff 0 l (map bit (front false n (replicate 16 false)))) where
    wide : width (book_in s h) flags ≡ n
    wide = relations-are s h good ∙ sym k

    none-set : map bit (front false n (replicate 16 false)) ≡ map bit (replicate (length (book_in s h).arities) false)
    none-set = rw (front-replicate false n 16, wide)

    same : leb n d ≡ eq_vals (take (width (book_in s h) flags) l) (map bit (replicate (length (book_in s h).arities) false))
    same =
        let e = diff-all 0 l (map bit (front false n (replicate 16 false))) (rw (bits-length n (replicate 16 false)) (omega (arith, z.is, size_is s h good))) in
        let a : 0 + n ≡ n = omega arith in
        ap (leb n) p ∙ rw (bits-length n (replicate 16 false), a) at e ∙ (λ j. eq_vals (take (sym wide j) l) (none-set j))

    pub first-set : {x : Outcome} → d < n → x ≡ Err (refuse 18 d) → x ≡ told (judge_first (book_in s h) flags l)
    unfolding judge_first
    first-set q e =
        need-le 13 0 _ (size (book_in s h) flags) (length l) (rw (← z.is) long)
        (need-no 18 _ _ _ same (lt-leb _ _ q) (e ∙ ap (λ (j : ℕ). Err (refuse 18 j)) (p ∙ ap (first_diff 0 l) none-set)))

    -- o is the first place outside its window
    module _ {o : ℕ} (unset : n ≤ d) (out : o ≡ first_out_rows (place_window (book_in s h)) n (cut (book_in s h).arities (drop n l))) where
      places : o ≡ first_out_rows (place_window (book_in s h)) (width (book_in s h) flags) (cut (book_in s h).arities (drop (width (book_in s h) flags) l))
      places = rw wide out

      inside-all : leb more o ≡ all_rows (place_window (book_in s h)) (cut (book_in s h).arities (drop (width (book_in s h) flags) l))
      inside-all =
          let a : n + sum (book_in s h).arities ≡ more = omega (arith, z.is, size_is s h good) in
          ap (leb more) out
          ∙ rw a at (rows_all (place_window (book_in s h)) (book_in s h).arities (drop n l) n (rw length-drop (omega (arith, z.is, size_is s h good))))
          ∙ ap (λ (j : ℕ). all_rows (place_window (book_in s h)) (cut (book_in s h).arities (drop j l))) (sym wide)

      pub first-outside : {x : Outcome} → o < more → x ≡ Err (refuse 14 o) → x ≡ told (judge_first (book_in s h) flags l)
      unfolding judge_first
      first-outside q e =
          need-le 13 0 _ (size (book_in s h) flags) (length l) (rw (← z.is) long)
          (need-yes 18 _ _ _ same (le-leb _ _ unset)
          (need-no 14 _ _ _ inside-all (lt-leb _ _ q) (e ∙ ap (λ (j : ℕ). Err (refuse 14 j)) places)))

      pub first_good : {x : Outcome} → more ≤ o → x ≡ Ok 0 → x ≡ told (judge_first (book_in s h) flags l)
      unfolding judge_first
      first_good q e =
          need-le 13 0 _ (size (book_in s h) flags) (length l) (rw (← z.is) long)
          (need-yes 18 _ _ _ same (le-leb _ _ unset)
          (need-yes 14 _ _ _ inside-all (le-leb _ _ q) (ends-well e)))

-- ---- then the steps

module _ (s : List ℕ) (h : Header) (f : Fact) (l : List ℤ) {x y : Outcome} (p : y ≡ told (judge_first (book_in s h) flags l)) where
  pub whole-stop : {g : Refusal} → y ≡ Err g → x ≡ Err g → x ≡ told (check_walk (book_in s h) flags f l)
  whole-stop q e = rw (walk-due-all (book_in s h) flags f l) (then-stop _ _ p q e)

  pub whole-on : {more k : ℕ} → Sized (book_in s h) flags more → y ≡ Ok k → x ≡ told (walk_due (book_in s h) flags f l more (first_of (book_in s h) flags l)) → x ≡ told (check_walk (book_in s h) flags f l)
  whole-on z q e = rw (walk-due-all (book_in s h) flags f l) (then-on _ _ p q (rw z.is at e))
