-- A constraint over a clause's variables, and when it is true.
use Rattle.std.specs.Prelude.{ℕ, ◌%◌, List, [], ◌∷◌, Bool, true, false, ◌&&◌, ◌||◌, eqb, ℤ, pos, negsuc, ◌+ℤ◌, ◌*ℤ◌}
use Rattle.std.proofs.Math.Bool as Bool
use Rattle.std.specs.Int.Signed.{le_z}

-- a constant, and a coefficient for each variable
pub record Sum : Type 0 where
  pub coefficients : List ℤ
  pub constant : ℤ

-- document 01's seven kinds, 0 to 6 in order; a remainder has its divisor and what is to be left
pub data Constraint : Type 0 where
  truth : Constraint
  at_most : Sum → Constraint
  equal : Sum → Constraint
  not : Constraint → Constraint
  and : Constraint → Constraint → Constraint
  or : Constraint → Constraint → Constraint
  remainder : Sum → ℕ → ℕ → Constraint
  deriving IsSet as Constraint-set

-- z and each coefficient times its variable's value
unfoldable pub plus : ℤ → List ℤ → List ℤ → ℤ
plus z [] xs = z
plus z (c ∷ cs) [] = z
plus z (c ∷ cs) (x ∷ xs) = plus (z +ℤ (c *ℤ x)) cs xs

-- the constant plus each coefficient times its variable, in whole numbers
abbrev pub value_of : Sum → List ℤ → ℤ
value_of s xs = plus s.constant s.coefficients xs

abbrev pub at_most0 : ℤ → Bool
at_most0 z = le_z z (pos 0)

unfoldable pub is0 : ℤ → Bool
is0 (pos n) = eqb n 0
is0 (negsuc n) = false

-- z is not negative and leaves r when divided by d
unfoldable pub leaves : ℕ → ℕ → ℤ → Bool
leaves d r (pos n) = eqb (n % d) r
leaves d r (negsuc n) = false

-- the truth of a constraint at the variables' values
unfoldable pub holds : List ℤ → Constraint → Bool
holds xs truth = true
holds xs (at_most s) = at_most0 (value_of s xs)
holds xs (equal s) = is0 (value_of s xs)
holds xs (not t) = Bool.not (holds xs t)
holds xs (and t u) = holds xs t && holds xs u
holds xs (or t u) = holds xs t || holds xs u
holds xs (remainder s d r) = leaves d r (value_of s xs)
