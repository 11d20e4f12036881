-- A list of bytes is accepted exactly when it is the writing of a book within the limits.
use Rattle.std.specs.Prelude.{ℕ, ◌≤◌, ◌≡◌, refl, ◌↔◌, List, length, Ok, Err}
use Rattle.std.proofs.Common.{arith}
use Rattle.meaning.specs.Book.{Book}
use Rattle.meaning.specs.Limits.{Limits}
use Rattle.book.specs.Read.{read, Reading}
use Rattle.book.specs.Meaning.{book_in}
use Rattle.book.specs.Answer.{accepted, told, answer}
use Rattle.encode.specs.Encode.{encode}
use Rattle.encode.specs.Stands.{Bytes}
use Rattle.encode.specs.RoundTrip.{answer-encode}
use Rattle.encode.specs.Written.{encode-read, limits-read, short-read}

-- what was read of accepted bytes, written again, is those bytes, and it keeps the limits
pub accepted-is-written : (s : List ℕ) → Bytes s → (b : Book) → answer s ≡ accepted b → (encode b ≡ s) × Limits b × (length s ≤ 60000)
unfolding answer told
accepted-is-written s bytes b e = by (read s) refl e
  where
    by : (r : Reading) → read s ≡ r → told s r ≡ accepted b → (encode b ≡ s) × Limits b × (length s ≤ 60000)
    by (Ok h) g q =
        let same : book_in s h ≡ b = cc in
        (rw same at (encode-read s h bytes g), rw same at (limits-read s h bytes g), short-read s h g)
    by (Err f) g q = absurd (let z : ◌≡◌ {A = ℕ} 0 1 = cc in let w : ⊥ = omega arith in w)

pub accepts-exactly : (s : List ℕ) → Bytes s → (b : Book) → (answer s ≡ accepted b) ↔ ((encode b ≡ s) × Limits b × (length s ≤ 60000))
accepts-exactly s bytes b = (
  accepted-is-written s bytes b,
  λ h. rw h.0 at (answer-encode b h.1 (rw h.0 h.2)),
)
