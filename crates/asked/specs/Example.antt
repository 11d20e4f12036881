-- Document 01's derivation D of book B's query, and its trace.
use Rattle.std.specs.Prelude.{List, [], ◌∷◌, ℤ, pos}

abbrev pub list_d : List ℤ
list_d = pos 0 ∷ pos 0 ∷ pos 1 ∷ pos 0 ∷ pos 1 ∷ pos 1 ∷ pos 1 ∷ pos 2 ∷ pos 1 ∷ pos 2 ∷ pos 3 ∷ pos 2 ∷ pos 3 ∷ []

-- 31 numbers: the first state, then each step with its next state
abbrev pub list_t : List ℤ
list_t =
    pos 0 ∷ pos 0 ∷ pos 0 ∷
    pos 0 ∷ pos 0 ∷ pos 1 ∷ pos 0 ∷ pos 0 ∷
    pos 1 ∷ pos 0 ∷ pos 1 ∷ pos 1 ∷ pos 0 ∷ pos 1 ∷
    pos 1 ∷ pos 1 ∷ pos 2 ∷ pos 1 ∷ pos 0 ∷ pos 2 ∷
    pos 1 ∷ pos 2 ∷ pos 3 ∷ pos 1 ∷ pos 0 ∷ pos 3 ∷
    pos 2 ∷ pos 3 ∷ pos 1 ∷ pos 1 ∷ pos 3 ∷ []
