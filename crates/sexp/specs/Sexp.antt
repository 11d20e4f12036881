-- S-expressions, and their text.
use Rattle.std.specs.Prelude.{List, [], ◌∷◌, ◌++◌, ℕ, zero, suc, length, get_or}
use Prim.Native.String.{String}
use Rattle.sexp.specs.Bytes.{bytes}

infixr 60 ◌&◌
infixr 55 ◌⧺◌
mutual
  pub data Sexp : Type 0 where
    word : List ℕ → Sexp
    list : Sexps → Sexp

  pub data Sexps : Type 0 where
    end : Sexps
    ◌&◌ : Sexp → Sexps → Sexps

-- a word, quoted
abbrev pub w : String → Sexp
w s = word (bytes s)

-- ---- text: brackets, spaces and line feeds are said here alone

-- `onto x k`: the text of x, and then k. `inside xs k`: that of xs with a space between each two, the closing bracket, and then k.
-- `spaced xs k`: a space and the text of each of xs, and then k
unfoldable mutual
  pub onto : Sexp → List ℕ → List ℕ
  onto (word t) k = t ++ k
  onto (list xs) k = 40 ∷ inside xs k

  pub inside : Sexps → List ℕ → List ℕ
  inside end k = 41 ∷ k
  inside (x & xs) k = onto x (spaced xs (41 ∷ k))

  pub spaced : Sexps → List ℕ → List ℕ
  spaced end k = k
  spaced (x & xs) k = 32 ∷ onto x (spaced xs k)

abbrev pub render : Sexp → List ℕ
render x = onto x []

abbrev pub items : Sexps → List ℕ
items xs = spaced xs []

-- the text of each, closed by a line feed, and then k
unfoldable pub lines_onto : Sexps → List ℕ → List ℕ
lines_onto end k = k
lines_onto (x & xs) k = onto x (10 ∷ lines_onto xs k)

abbrev pub lines : Sexps → List ℕ
lines xs = lines_onto xs []

-- ---- lists of S-expressions

-- one list after the other
unfoldable pub ◌⧺◌ : Sexps → Sexps → Sexps
◌⧺◌ end ys = ys
◌⧺◌ (x & xs) ys = x & (xs ⧺ ys)

-- those of f 0, f 1, .. n of them
unfoldable pub each : ℕ → (ℕ → Sexps) → Sexps
each zero f = end
each (suc n) f = each n f ⧺ f n

-- those of f 0 a, f 1 b, .. for the elements a, b, .. of a list
abbrev pub over : {A : Type 0} → A → List A → (ℕ → A → Sexps) → Sexps
over d xs f = each (length xs) (λ i. f i (get_or xs i d))
