-- Each step of a list that a walk accepts, by its place.
use Rattle.std.specs.Prelude.{◌≡◌, ℤ}
use Rattle.std.proofs.Common.{arith}
use mathlib.Core.List.{List}
use Prim.Native.Nat.{ℕ, ◌+◌, ◌≤◌, ◌<◌}
use Rattle.std.proofs.Math.ListN.{length, length-drop}
use Rattle.meaning.specs.Book.{Book, Instance}
use Rattle.reply.specs.Answer.{Answer, ok}
use Rattle.lists.specs.Walker.{Walker}
use Rattle.lists.specs.Walked.{step_here, start, start-next, walked}
use Rattle.lists.specs.Runs.{Sense}
use Rattle.lists.proofs.Walked.{walked_more, walked_at}

module _ (b : Book) (W : Walker Answer) (S : Sense b W) where
  -- each step of an accepted list is an instance and stands there in full, with its gap
  pub step-in-walk : (l : List ℤ) (i : ℕ) (o : W.Memory) → walked b W l i o ≡ ok → (j : ℕ) → start b W.gap l i j < length l
      → Instance b (step_here b l (start b W.gap l i j)) × (start b W.gap l i (j + 1) ≤ length l)
  step-in-walk l i o e j h =
      let n = start b W.gap l i j in
      let (p, q) = walked_at b W (λ a. a ≡ ok) (λ k l i o a e. ((S.step-says k l i o a).0 e).1) l i o e j h in
      let (t, more) = (S.step-says _ _ _ _ _).0 (rw (walked_more b W l n p h) at q) in
      (t.one, omega (arith, t.long, length-drop (n + 1) l, start-next b W.gap l i j))
