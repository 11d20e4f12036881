-- The second sides that wait while a first one is judged, as one number: two bits each, the nearest lowest.
use Rattle.std.specs.Prelude.{ℕ, ◌+◌, ◌*◌, ◌≡◌, List, [], ◌∷◌, Bool, true, false}
use Rattle.std.proofs.Math.Bool.{beq}
use Rattle.cursor.specs.Steps.{pick}
use Rattle.truth.specs.declared.Waiting.{Waiting}

-- The side counts where the first one is `first`, and then says of the whole what it is wanted to be.
pub record Side : Type 0 where
  pub first : Bool
  pub want : Bool

unfoldable pub bits_of : Bool → Bool → ℕ
bits_of true true = 3
bits_of true false = 2
bits_of false true = 1
bits_of false false = 0

unfoldable pub code : List Side → ℕ
code [] = 1
code (f ∷ fs) = code fs * 4 + bits_of f.first f.want

-- from the first side on that counts where what stands before it is t; n were passed
unfoldable pub until : Bool → List Side → ℕ → Waiting
until t [] n = record { sides = 1; passed = n }
until t (f ∷ fs) n = pick (beq t f.first) (record { sides = code (f ∷ fs); passed = n }) (until t fs (n + 1))

pub record Opened (sides : ℕ) (t : Bool) (r : Waiting) : Type 0 where
  pub is : (fs : List Side) → sides ≡ code fs → r ≡ until t fs 0
