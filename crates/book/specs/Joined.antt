-- The joining law: in an accepted book, reading the record where the index says never refuses, and gives the meaning's clause.
use Rattle.std.specs.Prelude.{ℕ, zero, suc, ◌+◌, ◌*◌, ◌<◌, ◌≡◌, refl, List, length, get_or, take, Ok}
use Rattle.std.proofs.Common.{arith, sym, ◌∙◌, eqb-true}
use Rattle.std.proofs.Math.Path.{ap}
use Rattle.whole.specs.Bytes.{u16_at}
use Rattle.meaning.specs.Book as meant
use Rattle.cursor.specs.declared.Cursor.{Cursor}
use Rattle.cursor.specs.declared.Clause.{Clause}
use Rattle.cursor.specs.Clause.{parts_at, clause_at}
use Rattle.cursor.specs.Meaning.{clause_in, clause_or}
use Rattle.cursor.specs.Inverse.{pick-then}
use Rattle.cursor.specs.Sound.{Sound, sound, parts-of}
use Rattle.book.specs.declared.Header.{Header}
use Rattle.book.specs.Read.{trailer, arities_at, record_at, clauses_at, read, entry_at}
use Rattle.book.specs.Meaning.{up_to, clause_number, book_in}
use Rattle.cursor.specs.Steps.{Read}
use Rattle.reply.specs.Then.{went, no_err, same-read}

-- the k-th of a list that is made by its numbers
pub up_to-at : {A : Type 0} (n : ℕ) (f : ℕ → A) (k : ℕ) (d : A) → k < n → get_or (up_to n f) k d ≡ f k
unfolding up_to
up_to-at zero f k d h = absurd (let z : ⊥ = omega arith in z)
up_to-at (suc n) f zero d h = refl
up_to-at (suc n) f (suc k) d h = up_to-at n (λ i. f (suc i)) k d (omega arith)

pub up_to-length : {A : Type 0} (n : ℕ) (f : ℕ → A) → length (up_to n f) ≡ n
unfolding up_to
up_to-length zero f = refl
up_to-length (suc n) f = ap suc (up_to-length n (λ i. f (suc i)))

-- what an accepted book went through: its trailer, its arities, its records
pub record Passed (s : List ℕ) (h : Header) : Type 0 where
  pub trailed : trailer s ≡ Ok h
  pub first : Cursor
  pub arities : arities_at h.relations (take h.start s) h.query (record { at = 0; left = 0 }) ≡ Ok first
  pub last : Cursor
  pub clauses : clauses_at h.count s h.start h.relations h.start first ≡ Ok last

passed-same : (s : List ℕ) (h g : Header) → h ≡ g → Passed s h → Passed s g
passed-same s h g e w = rw e at w

pub passed : (s : List ℕ) (g : Header) → read s ≡ Ok g → Passed s g
unfolding read
passed s g e =
    went (trailer s) _ _ no_err e
    (λ h t e₁. went _ _ _ no_err e₁
    (λ c a e₂. went _ _ _ no_err e₂
    (λ d w e₃. passed-same s h g (let same : h ≡ g = cc in same) (record { trailed = t; first = c; arities = a; last = d; clauses = w }))))

-- a record that is read
pub record IsRead (y : Read Clause) : Type 0 where
  pub clause : Clause
  pub past : Cursor
  pub reads : y ≡ Ok (clause, past)

record-went : {Q : Type 0} (s : List ℕ) (start n p : ℕ) (c : Cursor) {e : Cursor} → record_at s start n p c ≡ Ok e →
    (c.at ≡ u16_at s p → IsRead (clause_at (take start s) n (record { at = c.at; left = 0 })) → Q) → Q
unfolding record_at
record-went s start n p c q k =
    pick-then _ _ _ (no_err _) q
    (λ t r. went _ _ _ no_err r (λ (l, e) y z. k (eqb-true _ _ t) (record { clause = l; past = e; reads = y })))

clauses-read : (k : ℕ) (s : List ℕ) (start n p : ℕ) (c e : Cursor) → clauses_at k s start n p c ≡ Ok e →
    (i : ℕ) → i < k → IsRead (clause_at (take start s) n (record { at = u16_at s (p + i * 2); left = 0 }))
unfolding clauses_at
clauses-read zero s start n p c e q i h = absurd (let z : ⊥ = omega arith in z)
clauses-read (suc k) s start n p c e q zero h =
    let z : p + 0 * 2 ≡ p = omega arith in
    went _ _ _ no_err q (λ d w r. record-went s start n p c w (λ t y. rw (z, ← t) y))
clauses-read (suc k) s start n p c e q (suc i) h =
    let z : p + suc i * 2 ≡ p + 2 + i * 2 = omega arith in
    went _ _ _ no_err q (λ d w r. rw z (clauses-read k s start n (p + 2) d e r i (omega arith)))

-- what the code has of clause k is what stands where the index says; it is the meaning's clause k, and it is sound
pub record Held (s : List ℕ) (h : Header) (k : ℕ) (l : Clause) : Type 0 where
  pub past : Cursor
  pub reads : parts_at (take h.start s) h.relations (entry_at s h.start k) ≡ Ok (l, past)
  pub is : get_or (book_in s h).clauses k meant.none_such ≡ clause_in (take h.start s) l
  pub sound : Sound (take h.start s) h.relations l

module _ (s : List ℕ) (h : Header) (good : read s ≡ Ok h) where
  -- below the count, reading the record where the index says never refuses
  pub record-read : (k : ℕ) → k < h.count → IsRead (clause_at (take h.start s) h.relations (entry_at s h.start k))
  unfolding entry_at
  record-read k below =
      let w = passed s h good in
      clauses-read h.count s h.start h.relations h.start w.first w.last w.clauses k below

  -- and what is read there is the meaning's clause
  pub held : (k : ℕ) → k < h.count → (l : Clause) (e : Cursor) →
      clause_at (take h.start s) h.relations (entry_at s h.start k) ≡ Ok (l, e) → Held s h k l
  unfolding book_in clause_number clause_or
  held k below l e q =
      let p = parts-of (take h.start s) h.relations (entry_at s h.start k) l e q in
      record {
        past = p.0;
        reads = p.1;
        is = up_to-at h.count _ k meant.none_such below ∙ ap (clause_or (take h.start s)) q;
        sound = sound (take h.start s) h.relations (entry_at s h.start k) l e q;
      }

  pub count-is : length (book_in s h).clauses ≡ h.count
  unfolding book_in
  count-is = up_to-length h.count _

-- no two records satisfy that promise
pub one-record : (s : List ℕ) (h : Header) (k : ℕ) (l m : Clause) → Held s h k l → Held s h k m → l ≡ m
one-record s h k l m p q = (same-read (sym p.reads ∙ q.reads)).0
