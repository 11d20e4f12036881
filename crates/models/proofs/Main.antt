-- The theorems of the model check, for every book and all model bytes.
use Rattle.std.specs.Prelude.{◌≡◌, ◌↔◌, List, ℕ}
use Rattle.meaning.specs.Book.{Book}
use Rattle.encode.specs.Stands.{Bytes}
use Rattle.models.specs.Answer.{number_of, examine}
use Rattle.models.specs.Written.{holds-exactly}
use Rattle.models.specs.Main.{Accepted}
use Rattle.models.proofs.Exact.{accepted-exactly}
-- the walk tries just the assignments, each once, at its position
pub use Rattle.models.proofs.Found.{tried, position-walk, walk-total}
-- accepted: all assignments are counted; no derivation of the query exists, and no trace to it, of any length
pub use Rattle.models.proofs.Exact.{accepted-count, accepted-derivation, accepted-trace, accepted-system}
-- refused with 25: the first broken instance is named, and its count is its position
pub use Rattle.models.proofs.Exact.{broken-exactly}
-- the reply for the bytes of a book is the one for that book, and a clause has so many assignments
pub use Rattle.models.specs.Main.{answered-encode, clause-count}

-- accepted exactly then
pub accepted : (b : Book) {s : List ℕ} → Bytes s → (number_of (examine b s) ≡ 0) ↔ Accepted b s
accepted b {s} y = (
  λ h.
      let a = (accepted-exactly b s).0 h in
      let w = (holds-exactly y b.arities a.model).0 a.held in
      record { model = a.model; fit = w.0; written = w.1; is = a.is; few = a.few },
  λ a. (accepted-exactly b s).1 (record {
    model = a.model;
    held = (holds-exactly y b.arities a.model).1 (a.fit, a.written);
    is = a.is;
    few = a.few;
  }),
)
