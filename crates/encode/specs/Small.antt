-- What a book within the limits is written in are bytes: each number is below 256.
use Rattle.std.specs.Prelude.{ℕ, ◌+◌, ◌%◌, ◌/◌, ◌≤◌, ◌<◌, List, [], ◌∷◌, ◌++◌, length, ℤ}
use native.Mathlib.Omega.{arith}
use Rattle.std.proofs.Math.Option.{Option, none, some}
use Rattle.std.proofs.Common.{length-append, SFits, of_z}
use Rattle.std.specs.Int.{w16, w32}
use Rattle.std.proofs.Math.Facts.{Fits-of_z}
use Rattle.whole.specs.Bytes.{u16_bytes, u32_bytes, i16_bytes, i32_bytes, low_below, high-below}
use Rattle.meaning.specs.Constraint.{Sum, Constraint, truth, at_most, equal, not, and, or, remainder}
use Rattle.meaning.specs.Book.{Atom, Clause, Book}
use Rattle.meaning.specs.Limits.{Each, Numbers, SumLimits, AtomLimits, BodyLimits, ClauseLimits, Limits}
use Rattle.meaning.specs.Wf.{each_at}
use Rattle.encode.specs.Encode.{spell, sum_bytes, constraint_bytes, atom_bytes, body_bytes, clause_bytes, starts, index_start, trailer_bytes, encode}
use Rattle.encode.specs.Stands.{Bytes}

abbrev All : List ℕ → Type 0
All s = Each (λ (n : ℕ). n < 256) s

module _ {A : Type 0} (P : A → Type 0) where
  both : (u w : List A) → Each P u → Each P w → Each P (u ++ w)
  both [] w h k = k
  both (x ∷ u) w h k = (h.0, both u w h.1 k)

  weaker : (Q : A → Type 0) → ((x : A) → P x → Q x) → (l : List A) → Each P l → Each Q l
  weaker Q f [] h = tt
  weaker Q f (x ∷ l) h = (f x h.0, weaker Q f l h.1)

join : (u w : List ℕ) → All u → All w → All (u ++ w)
join u w = both (λ (n : ℕ). n < 256) u w

spelled : {A : Type 0} (P : A → Type 0) (f : A → List ℕ) → ((x : A) → P x → All (f x)) → (l : List A) → Each P l → All (spell f l)
unfolding spell
spelled P f g [] h = tt
spelled P f g (x ∷ l) h = join (f x) _ (g x h.0) (spelled P f g l h.1)

-- ---- numbers

u16-bytes : (n : ℕ) → n < 65536 → All (u16_bytes n)
unfolding u16_bytes
u16-bytes n h = (low_below 256 (omega arith) n, (high-below 256 (omega arith) n 256 (omega arith), tt))

u32-bytes : (n : ℕ) → n < 4294967296 → All (u32_bytes n)
unfolding u32_bytes
u32-bytes n h = join (u16_bytes (n % 65536)) _ (u16-bytes (n % 65536) (low_below 65536 (omega arith) n)) (u16-bytes (n / 65536) (high-below 65536 (omega arith) n 65536 (omega arith)))

i16-bytes : (z : ℤ) → SFits w16 z → All (i16_bytes z)
unfolding i16_bytes
i16-bytes z f = u16-bytes (of_z w16 z) (Fits-of_z {w = w16} f).fits

i32-bytes : (z : ℤ) → SFits w32 z → All (i32_bytes z)
unfolding i32_bytes
i32-bytes z f = u32-bytes (of_z w32 z) (Fits-of_z {w = w32} f).fits

-- ---- constraints

sum-bytes : {v : ℕ} (s : Sum) → SumLimits v s → All (sum_bytes s)
unfolding sum_bytes
sum-bytes s l = join (spell i16_bytes s.coefficients) _ (spelled (SFits w16) i16_bytes i16-bytes s.coefficients l.coefficients) (i32-bytes s.constant l.constant)

constraint-bytes : (v : ℕ) (t : Constraint) → Numbers v t → All (constraint_bytes t)
unfolding Numbers constraint_bytes
constraint-bytes v truth l = (omega arith, tt)
constraint-bytes v (at_most s) l = (omega arith, sum-bytes s l)
constraint-bytes v (equal s) l = (omega arith, sum-bytes s l)
constraint-bytes v (not t) l = (omega arith, constraint-bytes v t l)
constraint-bytes v (and t u) l = (omega arith, join (constraint_bytes t) _ (constraint-bytes v t l.0) (constraint-bytes v u l.1))
constraint-bytes v (or t u) l = (omega arith, join (constraint_bytes t) _ (constraint-bytes v t l.0) (constraint-bytes v u l.1))
constraint-bytes v (remainder s d r) l =
    let n = l.1 in
    (omega arith, join (sum_bytes s) _ (sum-bytes s l.0) (join (u16_bytes d) _ (u16-bytes d n.small) (u16-bytes r (omega arith))))

-- ---- clauses

module _ (arities : List ℕ) (few : length arities ≤ 16) where
  atom-bytes : (v : ℕ) (a : Atom) → v ≤ 16 → AtomLimits arities v a → All (atom_bytes a)
  unfolding atom_bytes
  atom-bytes v a h l = (omega (arith, l.there), weaker (λ (i : ℕ). i < v) (λ (n : ℕ). n < 256) (λ x k. omega arith) a.args l.known)

  body_bytes-small : (v : ℕ) (o : Option Atom) → v ≤ 16 → BodyLimits arities v o → All (body_bytes o)
  unfolding body_bytes
  body_bytes-small v none h l = (omega arith, tt)
  body_bytes-small v (some a) h l = atom-bytes v a h l

  clause-bytes : (c : Clause) → ClauseLimits arities c → All (clause_bytes c)
  unfolding clause_bytes
  clause-bytes c l =
      let h = l.few in (
        omega arith,
        join (body_bytes c.body) _ (body_bytes-small c.vars c.body h l.body)
            (join (atom_bytes c.head) _ (atom-bytes c.vars c.head h l.head) (constraint-bytes c.vars c.rule l.rule.numbers)),
      )

-- ---- the index: no record starts past where the records end

starts-below : (p top : ℕ) (cs : List Clause) → p + length (spell clause_bytes cs) ≤ top → Each (λ (n : ℕ). n ≤ top) (starts p cs)
unfolding starts spell
starts-below p top [] h = tt
starts-below p top (c ∷ cs) h =
    let e = length-append (clause_bytes c) (spell clause_bytes cs) in
    (omega arith, starts-below (p + length (clause_bytes c)) top cs (omega arith))

-- ---- the whole book

room : (b : Book) → length (encode b) ≤ 60000 → index_start b ≤ 60000
unfolding encode index_start
room b short =
    let r = spell clause_bytes b.clauses in
    let rest = spell u16_bytes (starts (length b.arities) b.clauses) ++ trailer_bytes b in
    omega (arith, length-append b.arities (r ++ rest), length-append r rest)

index-bytes : (b : Book) → index_start b ≤ 60000 → All (spell u16_bytes (starts (length b.arities) b.clauses))
unfolding index_start
index-bytes b h =
    spelled (λ (n : ℕ). n ≤ 60000) u16_bytes (λ n k. u16-bytes n (omega arith)) _
    (starts-below (length b.arities) 60000 b.clauses h)

trailer-bytes : (b : Book) → Limits b → index_start b ≤ 60000 → All (trailer_bytes b)
unfolding trailer_bytes
trailer-bytes b l h =
    let n = l.few in
    let q = l.query in
    join (i32_bytes b.lo) _ (i32-bytes b.lo l.lo)
    (join (i32_bytes b.hi) _ (i32-bytes b.hi l.hi)
    (join (u16_bytes (index_start b)) _ (u16-bytes (index_start b) (omega arith))
    (join (u16_bytes (length b.clauses)) _ (u16-bytes (length b.clauses) (omega (arith, l.short)))
    (omega arith, (omega arith, (omega arith, (omega arith, tt)))))))

all : (b : Book) → Limits b → index_start b ≤ 60000 → All (encode b)
unfolding encode
all b l h =
    join b.arities _ (weaker (λ (n : ℕ). n ≤ 8) (λ (n : ℕ). n < 256) (λ x k. omega arith) b.arities l.arities)
    (join (spell clause_bytes b.clauses) _ (spelled (ClauseLimits b.arities) clause_bytes (clause-bytes b.arities l.few) b.clauses l.clauses)
    (join (spell u16_bytes (starts (length b.arities) b.clauses)) _ (index-bytes b h) (trailer-bytes b l h)))

pub encode-bytes : (b : Book) → Limits b → length (encode b) ≤ 60000 → Bytes (encode b)
encode-bytes b l short = record { below = λ i h. each_at (λ (n : ℕ). n < 256) 0 (encode b) (all b l (room b short)) i h }
