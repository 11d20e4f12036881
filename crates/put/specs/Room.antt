-- Writing into a room, and where a position stops.
use Rattle.std.specs.Prelude.{List, [], ◌∷◌, ℕ, ◌+◌, min, set}

-- d with t stored from index at on; what lies outside d is dropped
unfoldable pub paste : {A : Type 0} → List A → ℕ → List A → List A
paste d at [] = d
paste d at (b ∷ t) = paste (set d at b) (at + 1) t

-- the largest usize, at which a position stays
abbrev pub top : ℕ
top = 18446744073709551615

abbrev pub sat : ℕ → ℕ
sat n = min n top
