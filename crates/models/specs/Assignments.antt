-- The assignments of n variables, variable i in window i: all of them in order, how many they are, and how many come before a given one.
use Rattle.std.specs.Prelude.{ℕ, zero, suc, ◌+◌, ◌*◌, get_or, ℤ, pos, negsuc, ◌+ℤ◌, ◌-ℤ◌}
use mathlib.Core.List.{List, [], ◌∷◌, ◌++◌, map, flat_map}
use Rattle.meaning.specs.Book.{Window}

-- a whole number as a count: none where it is below zero
unfoldable pub natural : ℤ → ℕ
natural (pos n) = n
natural (negsuc n) = 0

-- how many values a window has: hi − lo + 1
unfoldable pub width : Window → ℕ
width w = natural ((w.hi +ℤ pos 1) -ℤ w.lo)

-- n values from v on, ascending
unfoldable pub up_from : ℕ → ℤ → List ℤ
up_from zero v = []
up_from (suc n) v = v ∷ up_from n (v +ℤ pos 1)

abbrev pub values : Window → List ℤ
values w = up_from (width w) w.lo

-- one more value after some
abbrev pub extend : List ℤ → List ℤ → List (List ℤ)
extend vs zs = map (λ (z : ℤ). vs ++ (z ∷ [])) zs

-- ascending, the first variable slowest: after each assignment of the variables before it, the last variable takes each of its values
unfoldable pub assignments : (ℕ → Window) → ℕ → List (List ℤ)
assignments w zero = [] ∷ []
assignments w (suc n) = flat_map (λ vs. extend vs (values (w n))) (assignments w n)

-- how many: the product of the widths, 1 for no variables
unfoldable pub count : (ℕ → Window) → ℕ → ℕ
count w zero = 1
count w (suc n) = count w n * width (w n)

-- how many come before vs, as the number whose digits are the values' distances from their lows
unfoldable pub rank : (ℕ → Window) → ℕ → List ℤ → ℕ
rank w zero vs = 0
rank w (suc n) vs = rank w n vs * width (w n) + natural (get_or vs n (pos 0) -ℤ (w n).lo)
