-- The names of the printed text.
use Rattle.std.specs.Prelude.{Bool, true, false, List, ◌++◌, ℕ}
use Rattle.sexp.specs.Bytes.{bytes}
use Rattle.put.specs.Digits.{digits}

-- the flag of relation r
unfoldable pub flag_name : ℕ → List ℕ
flag_name r = bytes "l" ++ digits r

-- place i of relation r
unfoldable pub place_name : ℕ → ℕ → List ℕ
place_name r i = bytes "p" ++ digits r ++ bytes "_" ++ digits i

-- variable i of clause k
unfoldable pub input_name : ℕ → ℕ → List ℕ
input_name k i = bytes "y" ++ digits k ++ bytes "_" ++ digits i

-- what a flag or place is after a step
unfoldable pub next : List ℕ → List ℕ
next n = n ++ bytes "n"

-- before a step, or after it
unfoldable pub in_state : Bool → List ℕ → List ℕ
in_state false n = n
in_state true n = next n

-- the definition that ties a flag or place to what it is after a step
unfoldable pub pair_name : List ℕ → List ℕ
pair_name n = bytes "s" ++ n
