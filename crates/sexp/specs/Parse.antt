-- What a text says, from the grammar alone: its tokens, and the S-expressions that they make.
use Rattle.std.specs.Prelude.{List, [], ◌∷◌, Bool, true, false, ℕ, eqb}
use Rattle.std.proofs.Math.Option.{Option, some, none}
use Rattle.sexp.specs.Sexp.{Sexp, Sexps, word, list, end, ◌&◌}

-- ---- tokens

pub data Kind : Type 0 where
  opening closing blank letter odd : Kind

abbrev pub pick_kind : Bool → Kind → Kind → Kind
pick_kind true a b = a
pick_kind false a b = b

-- brackets; space, line feed, tab and carriage return; what begins a string, a comment or a quoted symbol is odd; all else is a letter
unfoldable pub kind_of : ℕ → Kind
kind_of b =
    pick_kind (eqb b 40) opening
    (pick_kind (eqb b 41) closing
    (pick_kind (eqb b 32) blank
    (pick_kind (eqb b 10) blank
    (pick_kind (eqb b 9) blank
    (pick_kind (eqb b 13) blank
    (pick_kind (eqb b 34) odd
    (pick_kind (eqb b 59) odd
    (pick_kind (eqb b 124) odd letter))))))))

pub data Token : Type 0 where
  opens closes gap bad : Token
  name : List ℕ → Token

-- a letter in front of a name belongs to it
unfoldable pub extend : ℕ → List Token → List Token
extend b [] = name (b ∷ []) ∷ []
extend b (opens ∷ ts) = name (b ∷ []) ∷ opens ∷ ts
extend b (closes ∷ ts) = name (b ∷ []) ∷ closes ∷ ts
extend b (gap ∷ ts) = name (b ∷ []) ∷ gap ∷ ts
extend b (bad ∷ ts) = name (b ∷ []) ∷ bad ∷ ts
extend b (name t ∷ ts) = name (b ∷ t) ∷ ts

unfoldable pub before : Kind → ℕ → List Token → List Token
before opening b ts = opens ∷ ts
before closing b ts = closes ∷ ts
before blank b ts = gap ∷ ts
before letter b ts = extend b ts
before odd b ts = bad ∷ ts

unfoldable pub tokens : List ℕ → List Token
tokens [] = []
tokens (b ∷ s) = before (kind_of b) b (tokens s)

-- ---- S-expressions: what stands from here to the next bracket that shuts, and to those after it

pub data Pile : Type 0 where
  broken : Pile
  pile : Sexps → List Sexps → Pile

unfoldable pub on_word : List ℕ → Pile → Pile
on_word t broken = broken
on_word t (pile xs up) = pile (word t & xs) up

unfoldable pub on_close : Pile → Pile
on_close broken = broken
on_close (pile xs up) = pile end (xs ∷ up)

unfoldable pub on_open : Pile → Pile
on_open broken = broken
on_open (pile xs []) = broken
on_open (pile xs (ys ∷ up)) = pile (list xs & ys) up

unfoldable pub said : List Token → Pile
said [] = pile end []
said (opens ∷ ts) = on_open (said ts)
said (closes ∷ ts) = on_close (said ts)
said (gap ∷ ts) = said ts
said (bad ∷ ts) = broken
said (name t ∷ ts) = on_word t (said ts)

unfoldable pub whole : Pile → Option Sexps
whole broken = none
whole (pile xs []) = some xs
whole (pile xs (ys ∷ up)) = none

-- the S-expressions that a text is made of, if its brackets match and nothing in it is odd
unfoldable pub parse : List ℕ → Option Sexps
parse s = whole (said (tokens s))

-- ---- S-expressions of well-formed words: a test that computes, so that quoted words pass by themselves

abbrev pub both : Bool → Bool → Bool
both true b = b
both false b = false

unfoldable pub is_letter : Kind → Bool
is_letter opening = false
is_letter closing = false
is_letter blank = false
is_letter letter = true
is_letter odd = false

unfoldable pub letters : List ℕ → Bool
letters [] = true
letters (b ∷ t) = both (is_letter (kind_of b)) (letters t)

-- one letter or more
unfoldable pub is_name : List ℕ → Bool
is_name [] = false
is_name (b ∷ t) = both (is_letter (kind_of b)) (letters t)

unfoldable mutual
  pub plain : Sexp → Bool
  plain (word t) = is_name t
  plain (list xs) = plains xs

  pub plains : Sexps → Bool
  plains end = true
  plains (x & xs) = both (plain x) (plains xs)
