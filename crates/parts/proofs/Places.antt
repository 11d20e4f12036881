-- Gathering the values of an atom's arguments.
use Prim.Native.Nat.{ℕ, ◌+◌, ◌^◌, ◌<◌}
use native.Mathlib.Numerals.{add-one}
use native.Mathlib.Omega.{arith}
use mathlib.Core.Path.{◌≡◌, refl}
use mathlib.Core.List.{List, [], ◌∷◌}
use lib.ListN.{length, get_or, take, drop, set, length-drop}
use lib.Seq.{take-suc, take-suc-set, get_or-drop}
use lib.IntN.{ℤ, pos}
use lib.Signed.{mag}
use mir.Syntax.{w32}
use mir.Val.{hbits, to_z, of_z}
use Rattle.whole.specs.Whole.{own}
use Rattle.models.specs.Order.{map-append}
use Rattle.parts.specs.Task.{places_of}

pub places-none : (s : List ℕ) (seat : ℕ) (vs : List ℤ) → [] ≡ places_of s seat 0 vs
unfolding places_of
places-none s seat vs = refl

module _ (s : List ℕ) (seat k : ℕ) (vs ps : List ℤ) {i : ℕ} where
  pub places-more : i ≡ get_or s (seat + 1 + k) 0 → take k ps ≡ places_of s seat k vs → k < length ps → seat + 1 + k < length s → mag (get_or vs i (pos 0)) < 2 ^ hbits w32 →
      take (k + 1) (set ps k (to_z w32 (of_z w32 (get_or vs i (pos 0))))) ≡ places_of s seat (k + 1) vs
  unfolding places_of
  places-more j e h b m =
      rw (
        add-one k,
        own w32 (get_or vs i (pos 0)) m,
        take-suc-set ps k (get_or vs i (pos 0)) h,
        e,
        take-suc (drop (seat + 1) s) k 0 (omega (arith, length-drop (seat + 1) s)),
        get_or-drop (seat + 1) s k 0,
        map-append (λ (i : ℕ). get_or vs i (pos 0)) (take k (drop (seat + 1) s)) (get_or s (seat + 1 + k) 0 ∷ []),
        j,
      )
