-- What each exported function promises: the number that it returns, and what it writes through its pointers, in document 01's numbers.
-- In all of them r is the number returned and q the place written.
use Rattle.std.specs.Prelude.{ℕ, ◌≡◌, List, length, ℤ}
use Rattle.std.proofs.Common.{sym, ◌∙◌}
use Rattle.reply.specs.Answer.{Answer, number, place}
use Rattle.reply.specs.Room.{Due}
use Rattle.book.specs.Read.{constraint_of}
use Rattle.book.specs.Span.{span_of}
use Rattle.book.specs.OnBook.{reading}
use Rattle.derivation.specs.Answer as derivation
use Rattle.trace.specs.Answer as trace
use Rattle.convert.specs.Calls.{to_trace_due, to_derivation_due}
use Rattle.text.specs.Reply.{print_due}
use Rattle.models.specs.Answer.{Reply, model_answer}

-- ---- the promises

-- the answer a is due
pub record Tells (a : Answer) (r q : ℕ) : Type 0 where
  pub number : r ≡ number a
  pub place : q ≡ place a

-- y is due; e is the room that is left
pub record Writes {A : Type 0} (y : Due A) (r q : ℕ) (e : List A) : Type 0 where
  pub told : Tells y.answer r q
  pub room : e ≡ y.room

-- the model check's reply y is due: also how many assignments were examined, and the broken one's clause and sixteen values
pub record Weighs (y : Reply) (r q n k : ℕ) (v : List ℤ) : Type 0 where
  pub told : Tells y.answer r q
  pub count : n ≡ y.count
  pub clause : k ≡ y.clause
  pub values : v ≡ y.values

-- the constraint of clause k in the book s: r is its length, and q where it starts; 0 and 0 for a refused book or an absent clause
pub record Hands (s : List ℕ) (k r q : ℕ) : Type 0 where
  pub long : r ≡ length (constraint_of s k)
  pub start : q ≡ (span_of s k).start

-- ---- the calls: the book's bytes s, a list l, the goal's relation g and values v, a room d and what is left in it, e

-- ruahmitz_book
abbrev pub ReadsBook : List ℕ → ℕ → ℕ → Type 0
ReadsBook s r q = Tells (reading s) r q

-- ruahmitz_derivation
abbrev pub ChecksDerivation : List ℕ → List ℤ → ℕ → List ℤ → ℕ → ℕ → Type 0
ChecksDerivation s l g v r q = Tells (derivation.answer s l g v) r q

-- ruahmitz_trace
abbrev pub ChecksTrace : List ℕ → List ℤ → ℕ → List ℤ → ℕ → ℕ → Type 0
ChecksTrace s l g v r q = Tells (trace.answer s l g v) r q

-- ruahmitz_to_trace
abbrev pub GivesTrace : List ℕ → List ℤ → ℕ → List ℤ → List ℤ → ℕ → ℕ → List ℤ → Type 0
GivesTrace s l g v d r q e = Writes (to_trace_due s l g v d) r q e

-- ruahmitz_to_derivation
abbrev pub GivesDerivation : List ℕ → List ℤ → ℕ → List ℤ → List ℤ → ℕ → ℕ → List ℤ → Type 0
GivesDerivation s l g v d r q e = Writes (to_derivation_due s l g v d) r q e

-- ruahmitz_text
abbrev pub PrintsText : List ℕ → List ℕ → ℕ → ℕ → List ℕ → Type 0
PrintsText s d r q e = Writes (print_due s d) r q e

-- ruahmitz_model, on the model's bytes t
abbrev pub ChecksModel : List ℕ → List ℕ → ℕ → ℕ → ℕ → ℕ → List ℤ → Type 0
ChecksModel s t r q n k v = Weighs (model_answer s t) r q n k v

-- ---- each promise is kept by one reply alone

pub one_told : {a : Answer} {r q r' q' : ℕ} → Tells a r q → Tells a r' q' → (r ≡ r') × (q ≡ q')
one_told u v = (u.number ∙ sym v.number, u.place ∙ sym v.place)

pub one_written : {A : Type 0} {y : Due A} {r q r' q' : ℕ} {e e' : List A} → Writes y r q e → Writes y r' q' e' → (r ≡ r') × (q ≡ q') × (e ≡ e')
one_written u v = let (a, b) = one_told u.told v.told in (a, b, u.room ∙ sym v.room)

pub one-weighed : {y : Reply} {r q n k r' q' n' k' : ℕ} {v v' : List ℤ} → Weighs y r q n k v → Weighs y r' q' n' k' v'
    → (r ≡ r') × (q ≡ q') × (n ≡ n') × (k ≡ k') × (v ≡ v')
one-weighed t u = let (a, b) = one_told t.told u.told in (a, b, t.count ∙ sym u.count, t.clause ∙ sym u.clause, t.values ∙ sym u.values)

pub one-handed : {s : List ℕ} {k r q r' q' : ℕ} → Hands s k r q → Hands s k r' q' → (r ≡ r') × (q ≡ q')
one-handed u v = (u.long ∙ sym v.long, u.start ∙ sym v.start)
