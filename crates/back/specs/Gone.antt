-- The walk back over a trace's steps, and the room that it fills from the end of its front downwards.
use Rattle.std.specs.Prelude.{◌≡◌, ◌≢◌, List, ◌++◌, ℕ, ◌+◌, ◌≤◌, length, take, drop, ℤ}
use Rattle.std.specs.Prelude as code
use Rattle.std.proofs.Math.Option.{Option, none, some}
use Rattle.meaning.specs.Book.{Book}
use Rattle.meaning.specs.State.{Control}
use Rattle.lists.specs.Places.{clause_here}
use Rattle.lists.specs.Back.{relation_of, coming}
use Rattle.back.specs.declared.Wanted.{Wanted}

-- the relation that the code tells, as the meaning has it
abbrev pub told : code.Option ℕ → Option ℕ
told code.None = none
told (code.Some r) = some r

-- the numbers p are written in front of place `at` of the room d: they begin at r, and the room is e
pub record Wrote (p : List ℤ) (at : ℕ) (d : List ℤ) (r : ℕ) (e : List ℤ) : Type 0 where
  pub from : r + length p ≡ at
  pub long : length e ≡ length d
  pub room : drop r e ≡ p ++ drop at d

-- one step: where it wrote what is wanted, the room holds its numbers
pub record Due (b : Book) (l : List ℤ) (i : ℕ) (w : Wanted) (room : List ℤ) : Type 0 where
  pub fits : w.at ≤ length room
  pub some : w.relation ≡ code.Some (clause_here b l i).head.rel → (clause_here b l i).vars + 1 ≤ w.at

-- then they are written in front, and its body is wanted; else nothing changes
pub record Stepped (b : Book) (l : List ℤ) (i : ℕ) (w : Wanted) (d : List ℤ) (r : Wanted) (e : List ℤ) : Type 0 where
  pub wrote : w.relation ≡ code.Some (clause_here b l i).head.rel →
      (told r.relation ≡ relation_of (clause_here b l i).body) × Wrote (take ((clause_here b l i).vars + 1) (drop i l)) w.at d r.at e
  pub other : w.relation ≢ code.Some (clause_here b l i).head.rel → (r ≡ w) × (e ≡ d)

-- before step j, w is wanted and `at` numbers are still to be written
pub record Left (b : Book) (C : Control) (l : List ℤ) (j : ℕ) (w : Wanted) (d : List ℤ) : Type 0 where
  pub at : w.at ≡ length (coming b C l (told w.relation) j)
  pub fits : w.at ≤ length d

-- what the room is to have in the end
unfoldable pub whole : Book → Control → List ℤ → ℕ → Wanted → List ℤ → List ℤ
whole b C l j w d = coming b C l (told w.relation) j ++ drop w.at d

-- from step j back to step k: w and the room d have become r and e
pub record Gone (b : Book) (C : Control) (l : List ℤ) (j : ℕ) (w : Wanted) (d : List ℤ) (k : ℕ) (r : Wanted) (e : List ℤ) : Type 0 where
  pub left : Left b C l k r e
  pub same : whole b C l k r e ≡ whole b C l j w d
  pub long : length e ≡ length d
