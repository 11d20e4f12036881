-- Text constants, written as quoted text.
use Rattle.std.specs.Prelude.{ℕ, List}
use Prim.Native.Char.{code}
use mathlib.Core.List as list
use Prim.Native.String.{String, [], ◌∷◌}

-- the bytes of a text of plain ASCII
abbrev pub bytes : String → List ℕ
bytes [] = list.[]
bytes (c ∷ s) = list.◌∷◌ (code c) (bytes s)
