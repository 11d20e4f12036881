-- Lists that go on over again, a number at a time; bytes behind those that stand.
use Prim.Native.Nat.{ℕ, zero, suc, ◌+◌, ◌-◌, ◌^◌, ◌≤◌, ◌<◌}
use native.Mathlib.Omega.{arith}
use native.Mathlib.Numerals.{add-one}
use mathlib.Core.Path.{◌≡◌, refl, sym, ap, ◌∙◌}
use mathlib.Core.List.{List, ◌++◌}
use lib.ListN.{length, get_or, set, take}
use lib.Seq.{set_out, length-take-le, take-add, take_at, drop_at}
use Rattle.std.proofs.lemmas.List.{take-append-le}
use borrow.Rule.Slice.PartMut.{put_mid, post_of}
use lib.IntN.{ℤ, pos}
use lib.Signed.{mag}
use mir.Syntax.{w32}
use mir.Val.{hbits, to_z, of_z}
use Rattle.whole.specs.Whole.{own}
use Rattle.std.specs.Prelude.{Ok, Err}
use Rattle.std.specs.Result.{result_unwrap_or}
use Rattle.reply.specs.Answer.{Outcome, says}
use Rattle.reply.specs.Room.{Due, Fair, Leaves}
use Rattle.console.specs.Console.{again}

-- one number more, of 32 bits
pub again-more : (n m count at : ℕ) (l : List ℤ) {t : List ℤ} → again n count at l ≡ t → n ≡ m + 1 → mag (get_or l (at - count) (pos 0)) < 2 ^ hbits w32
    → again m count (at + 1) (set l at (to_z w32 (of_z w32 (get_or l (at - count) (pos 0))))) ≡ t
unfolding again
again-more n m count at l e z h = rw (own w32 (get_or l (at - count) (pos 0)) h) (rw (z, add-one m) at e)

-- none is left, or the room is full
pub again-done : (n count at : ℕ) (l : List ℤ) {t : List ℤ} → again n count at l ≡ t → (0 < n → length l ≤ at) → l ≡ t
unfolding again
again-done zero count at l e h = e
again-done (suc n) count at l e h = sym (again-full (suc n) count at l (h (omega arith))) ∙ e
  where
    again-full : (n count at : ℕ) (l : List ℤ) → length l ≤ at → again n count at l ≡ l
    again-full zero count at l h = refl
    again-full (suc n) count at l h = rw (set_out l at (get_or l (at - count) (pos 0)) h) (again-full n count (at + 1) l (omega arith))

-- ---- bytes read behind those that stand

-- n bytes of what was put into the part of a room from d on stand behind its first d bytes
pub take-put_behind : (xs ys : List ℕ) (d k n : ℕ) → d ≤ length xs → n ≤ length ys → take (d + n) (put_mid d k xs ys) ≡ take d xs ++ take n ys
take-put_behind xs ys d k n h m =
    let front : length (take d xs) ≡ d = length-take-le d xs h in
    let rest = ys ++ post_of d k xs in
    take-add d n (put_mid d k xs ys)
    ∙ (λ i. take_at (take d xs) rest d front i ++ take n (drop_at (take d xs) rest d front i))
    ∙ ap (λ l. take d xs ++ l) (take-append-le n ys (post_of d k xs) m)

-- ---- what a call with a room wrote, nothing where it refused, lies within the room

pub wrote-within : {A : Type 0} {d e : List A} {y : Due A} {x : Outcome} → Fair d y → Leaves y x e → result_unwrap_or x 0 ≤ length e
unfolding says
wrote-within {x = Ok n} f w = let front = f.done-room (sym w.tells) in rw w.room (omega (arith, front.0, front.1))
wrote-within {x = Err r} f w = omega arith
