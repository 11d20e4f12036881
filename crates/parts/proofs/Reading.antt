-- The ways of reading a model, one constraint after the other. The arities are ns.
use Prim.Native.Nat.{ℕ, ◌+◌, ◌<◌, ◌≤◌}
use native.Mathlib.Numerals.{add-one}
use mathlib.Core.Path.{◌≡◌}
use mathlib.Core.List.{List, [], ◌∷◌}
use lib.ListN.{length, get_or, drop, set, drop_of_length-le}
use lib.Seq.{drop-cons}
use borrow.Author.Tests.{eq-eqb, ne_eqb}
use Rattle.cursor.specs.declared.Cursor.{Cursor}
use Rattle.reply.specs.declared.Refusal.{Refusal}
use Rattle.reply.specs.Answer.{refuse}
use Rattle.cursor.specs.Steps.{pick}
use Rattle.models.specs.Read.{rule_at, pass_at, starts_at}
use Rattle.parts.specs.Task.{scan_at}
use Rattle.std.specs.Prelude.{Ok, Err}
use Rattle.reply.specs.Then.{go_on}

module _ (s ns : List ℕ) (k : ℕ) (c : Cursor) where
  row : k < length ns → drop k ns ≡ get_or ns k 0 ∷ drop (k + 1) ns
  row b = rw (add-one k) (drop-cons ns k 0 b)

  -- one constraint was read, over the relation's places
  pub scan-more : (l : List ℕ) {n : ℕ} {d : Cursor} → k < length ns → n ≡ get_or ns k 0 → Ok d ≡ rule_at s n c →
      scan_at s (drop (k + 1) ns) (k + 1) d (set l k c.at) ≡ scan_at s (drop k ns) k c l
  unfolding scan_at pass_at starts_at go_on
  scan-more l b a e = rw (row b, ← a, ← e)

  -- it was refused
  pub scan-stop : (l : List ℕ) {n : ℕ} {f : Refusal} → k < length ns → n ≡ get_or ns k 0 → Err f ≡ rule_at s n c → Err f ≡ scan_at s (drop k ns) k c l
  unfolding scan_at pass_at go_on
  scan-stop l b a e = rw (row b, ← a, ← e)

  -- all were read: nothing is left, or it is refused
  none_left : length ns ≤ k → drop k ns ≡ []
  none_left b = drop_of_length-le ns b

  pub scan-end : (l : List ℕ) → length ns ≤ k → c.at ≡ length s → Ok l ≡ scan_at s (drop k ns) k c l
  unfolding scan_at pass_at starts_at go_on pick
  scan-end l b e = rw (none_left b, eq-eqb _ _ e)

  pub scan-over : (l : List ℕ) → length ns ≤ k → (c.at ≡ length s → ⊥) → Err (refuse 22 c.at) ≡ scan_at s (drop k ns) k c l
  unfolding scan_at pass_at go_on pick
  scan-over l b e = rw (none_left b, ne_eqb _ _ e)
