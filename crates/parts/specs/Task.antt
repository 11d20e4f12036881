-- A model that was read, and one clause with the model's constraints of its body and head, by where they stand: what the code asks of them, and what they mean.
use Rattle.std.specs.Prelude.{ℕ, ◌+◌, ◌<◌, ◌≤◌, ◌≡◌, Bool, true, false, not, List, map, get_or, take, drop, replicate, eqb, ℤ, pos, Result, Ok, Err, Option, Some, None}
use Rattle.std.proofs.Common.{refl, sym, ap, ◌∙◌}
use Rattle.meaning.specs.Constraint.{Constraint, holds}
use Rattle.reply.specs.declared.Refusal.{Refusal}
use Rattle.reply.specs.Then.{go_on, ◌>>=◌, went, no_err}
use Rattle.cursor.specs.declared.Cursor.{Cursor}
use Rattle.cursor.specs.declared.Clause.{Clause}
use Rattle.cursor.specs.Steps.{pick, Step}
use Rattle.cursor.specs.Meaning.{tree_in}
use Rattle.cursor.specs.Sound.{Arguments, IsTree}
use Rattle.book.specs.declared.Header.{Header}
use Rattle.book.specs.Meaning.{book_in}
use Rattle.book.specs.Joined.{Held}
use Rattle.models.specs.Read.{model_in, rules_of, pass_at, starts_at}
use Rattle.parts.specs.declared.Half.{Half}

-- ---- the model that was read

abbrev pub first : Cursor
first = record { at = 0; left = 0 }

-- the model was read through, and these are its starts
pub record Started (s ns l : List ℕ) : Type 0 where
  pub starts : l ≡ starts_at s ns 0 first (replicate 16 0)
  pub end : Cursor
  pub passed : pass_at s ns first ≡ Ok end

-- the constraints over these arities, from the cursor to the end: where each starts, put down in l from place k on, or the refusal
unfoldable pub scan_at : List ℕ → List ℕ → ℕ → Cursor → List ℕ → Result (List ℕ) Refusal
scan_at s ns k c l = pass_at s ns c >>= λ _. Ok (starts_at s ns k c l)

-- the starts of the model that the bytes s hold, or the refusal
abbrev pub scan : List ℕ → List ℕ → Result (List ℕ) Refusal
scan s ns = scan_at s ns 0 first (replicate 16 0)

pub scan-started : (s ns l : List ℕ) → scan s ns ≡ Ok l → Started s ns l
unfolding scan_at
scan-started s ns l e = went (pass_at s ns first) _ _ no_err e (λ d p q. record { starts = let z : l ≡ starts_at s ns 0 first (replicate 16 0) = cc in z; end = d; passed = p })

pub scan-refused : (s ns : List ℕ) {r : Refusal} → scan s ns ≡ Err r → pass_at s ns first ≡ Err r
unfolding scan_at go_on
scan-refused s ns {r} e = go (pass_at s ns first) refl e
  where
    go : (y : Step) → pass_at s ns first ≡ y → go_on y (λ _. Ok (starts_at s ns 0 first (replicate 16 0))) Err ≡ Err r → pass_at s ns first ≡ Err r
    go (Ok d) p q = absurd (no_err r (sym q))
    go (Err f) p q = p ∙ (let z : f ≡ r = cc in ap Err z)

-- the constraints that a model's bytes hold
abbrev pub rules_in : List ℕ → List ℕ → List Constraint
rules_in s ns = rules_of (model_in s ns)

-- ---- one assignment: s is the book, t the model's bytes, vs the values

-- the values of n arguments that stand after the seat
unfoldable pub places_of : List ℕ → ℕ → ℕ → List ℤ → List ℤ
places_of s seat n vs = map (λ (i : ℕ). get_or vs i (pos 0)) (take n (drop (seat + 1) s))

-- whether the half's constraint is true of its arguments
unfoldable pub true_in : List ℕ → List ℕ → Half → List ℤ → Bool
true_in s t a vs = holds (places_of s a.seat a.places vs) (tree_in t a.places a.rule)

-- the same of a body, where there is one
unfoldable pub met_in : List ℕ → List ℕ → Option Half → List ℤ → Bool
met_in s t None vs = true
met_in s t (Some a) vs = true_in s t a vs

-- whether the values break the model at the clause c, with this body and head
unfoldable pub breaks_in : List ℕ → List ℕ → Clause → Option Half → Half → List ℤ → Bool
breaks_in s t c b a vs =
    pick (holds (take c.variables vs) (tree_in s c.variables c.rule))
    (pick (met_in s t b vs) (not (true_in s t a vs)) false)
    false

-- the arguments after the half's seat are numbers of m values, and a constraint over as many variables starts there in t
pub record Side (s : List ℕ) (m : ℕ) (t : List ℕ) (a : Half) : Type 0 where
  pub small : a.places ≤ 8
  pub arguments : Arguments s m (a.seat + 1) a.places
  pub tree : IsTree t a.places a.rule

-- the same of a body, where there is one
abbrev pub SideBody : List ℕ → ℕ → List ℕ → Option Half → Type 0
SideBody s m t None = Unit {0}
SideBody s m t (Some a) = Side s m t a

-- relation r of the book, whose number stands at p, in a model with these starts
unfoldable pub half_of : List ℕ → Header → List ℕ → ℕ → ℕ → Half
half_of s h l r p = record { seat = p; places = get_or (book_in s h).arities r 0; rule = get_or l r 0 }

-- the same of a body, where 255 is none
unfoldable pub body_of : List ℕ → Header → List ℕ → ℕ → ℕ → Option Half
body_of s h l r p = pick (eqb r 255) None (Some (half_of s h l r p))

-- what the task of clause i of the book s is put together from
pub record Taken (s : List ℕ) (h : Header) (l : List ℕ) (i : ℕ) (c : Clause) (b : Option Half) (a : Half) : Type 0 where
  pub below : i < h.count
  pub is : (x : Clause) → Held s h i x → c ≡ x
  pub body : b ≡ body_of s h l c.body c.body_at
  pub head : a ≡ half_of s h l c.head c.head_at
