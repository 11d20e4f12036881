-- Document 01's small book B, 60 bytes.
use Rattle.std.specs.Prelude.{ℕ, List, [], ◌∷◌}

abbrev pub book_b : List ℕ
book_b =
    1 ∷ 0 ∷
    1 ∷ 255 ∷ 0 ∷ 0 ∷ 2 ∷ 1 ∷ 0 ∷ 0 ∷ 0 ∷ 0 ∷ 0 ∷
    2 ∷ 0 ∷ 0 ∷ 0 ∷ 1 ∷ 2 ∷ 1 ∷ 0 ∷ 255 ∷ 255 ∷ 1 ∷ 0 ∷ 0 ∷ 0 ∷
    1 ∷ 0 ∷ 0 ∷ 1 ∷ 2 ∷ 1 ∷ 0 ∷ 253 ∷ 255 ∷ 255 ∷ 255 ∷
    2 ∷ 0 ∷ 13 ∷ 0 ∷ 27 ∷ 0 ∷
    0 ∷ 0 ∷ 0 ∷ 0 ∷ 3 ∷ 0 ∷ 0 ∷ 0 ∷ 38 ∷ 0 ∷ 3 ∷ 0 ∷ 2 ∷ 1 ∷ 1 ∷ 0 ∷ []
