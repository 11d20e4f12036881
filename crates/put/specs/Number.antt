-- A whole number as an S-expression: `(- 5)` below zero.
use Rattle.std.specs.Prelude.{suc, ℤ, pos, negsuc}
use Rattle.sexp.specs.Sexp.{Sexp, word, list, end, ◌&◌, w}
use Rattle.put.specs.Digits.{digits}

unfoldable pub num : ℤ → Sexp
num (pos n) = word (digits n)
num (negsuc n) = list (w "-" & word (digits (suc n)) & end)
