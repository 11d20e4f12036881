-- What any reply but 25 leaves 0, and when 21 and 22 are due.
use Rattle.std.specs.Prelude.{◌≡◌, ◌⊎◌, List, ℕ, Ok, Err}
use Rattle.std.proofs.Math.Path.{refl}
use Rattle.meaning.specs.Constraint.{Constraint}
use Rattle.meaning.specs.Book.{Book}
use Rattle.encode.specs.Encode.{spell, constraint_bytes}
use Rattle.encode.specs.Stands.{Bytes}
use Rattle.models.specs.Read.{Part, rules, model_in}
use Rattle.models.specs.Answer.{Reply, number_of, plain, judged, examine}
use Rattle.models.specs.Exact.{refused-read}
use Rattle.models.specs.Written.{Fit, holds-written}
use Rattle.cursor.specs.Steps.{Read}

-- ---- any reply but 25

-- clause and values are 0 but for 25; the count too where nothing was examined
pub record Plain (y : Reply) : Type 0 where
  pub zeros : ¬ (number_of y ≡ 25) → y ≡ plain y.answer y.count
  pub uncounted : ¬ (number_of y ≡ 0) → ¬ (number_of y ≡ 25) → y.count ≡ 0

-- ---- bytes that are no model written out: 21 or 22

pub unread : (b : Book) (s : List ℕ) → Bytes s → ¬ ((ts : List Constraint) × Fit b.arities ts × (s ≡ spell constraint_bytes ts)) → (number_of (examine b s) ≡ 21) ⊎ (number_of (examine b s) ≡ 22)
unfolding examine judged
unread b s bytes none = go (model_in s b.arities) refl
  where
    go : (y : Read (List Part)) → model_in s b.arities ≡ y → (number_of (judged b y) ≡ 21) ⊎ (number_of (judged b y) ≡ 22)
    go (Ok (ps, c)) e =
        let (f, w) = holds-written bytes b.arities (rules ps) (record { parts = ps; end = c; reads = e; are = refl }) in
        absurd (none (rules ps, f, w))
    go (Err r) e = refused-read s b.arities e
