-- What the programs' functions compute beside what they read and write: checksums, lists that go on over again, a list's form, and a number that the
-- input gave.
use Rattle.std.specs.Prelude.{ℕ, zero, suc, ◌+◌, ◌*◌, ◌-◌, ◌%◌, ◌≡◌, List, length, get_or, set, ℤ, pos, Option, Some, None}
use Rattle.std.specs.Io.KnownBytes.{Consumes}
use Rattle.whole.specs.Bytes.{u32_at}
use Rattle.console.specs.declared.Form.{Form}
use Rattle.console.specs.declared.Form.TheVariants.{Derivation, Trace}

-- the checksum n, and one byte more
abbrev pub sum_on : ℕ → ℕ → ℕ
sum_on n b = (n * 257 + b) % 65521

-- n numbers from place `at` on, each as the one `count` places before it; what would lie past the list's end is not written
unfoldable pub again : ℕ → ℕ → ℕ → List ℤ → List ℤ
again zero count at l = l
again (suc n) count at l = again n count (at + 1) (set l at (get_or l (at - count) (pos 0)))

-- the form of the list in a case by its call; 0 ends the cases
abbrev pub form_of : ℕ → Option Form
form_of zero = None
form_of (suc zero) = Some Derivation
form_of (suc (suc n)) = Some Trace

-- of the bytes that a reader has left, before and after: the first four are gone, and n is their number
abbrev pub Gives : Option (List ℕ) → Option (List ℕ) → ℕ → Type 0
Gives old new n = (bs : List ℕ) × (length bs ≡ 4) × (n ≡ u32_at bs 0) × Consumes old new bs
