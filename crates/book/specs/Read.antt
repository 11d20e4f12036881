-- What reading a whole book answers: trailer, arities, records in the order of their index entries, index.
use Rattle.std.specs.Prelude.{ℕ, zero, suc, ◌+◌, ◌-◌, ◌*◌, List, [], length, get_or, take, drop, ltb, leb, eqb, Result, Ok, Err}
use Rattle.std.specs.Int.Signed.{lt_z}
use Rattle.whole.specs.Bytes.{u16_at, i32_at}
use Rattle.cursor.specs.declared.Cursor.{Cursor}
use Rattle.reply.specs.declared.Refusal.{Refusal}
use Rattle.reply.specs.Answer.{refuse}
use Rattle.cursor.specs.Steps.{pick, value_then, byte_at, Step}
use Rattle.cursor.specs.Clause.{clause_at}
use Rattle.book.specs.declared.Header.{Header}
use Rattle.reply.specs.Then.{go_on, ◌>>=◌}

-- the header of an accepted book, or the refusal
abbrev pub Reading : Type 0
Reading = Result Header Refusal

-- ---- the trailer, 16 bytes

-- its rules but for the window; one and nil are its last two bytes, len is the book's length
unfoldable pub sized : Header → ℕ → ℕ → ℕ → Reading
sized h len one nil =
    let bad = Err (refuse 2 (len - 16)) in
    pick (ltb h.relations 1) bad
    (pick (ltb 16 h.relations) bad
    (pick (ltb h.start h.relations) bad
    (pick (ltb 64 h.count) bad
    (pick (ltb h.query h.relations)
    (pick (eqb one 1)
    (pick (eqb nil 0)
    (pick (eqb (h.start + h.count * 2 + 16) len) (Ok h) bad)
    bad)
    bad)
    bad))))

unfoldable pub headed : Header → ℕ → ℕ → ℕ → Reading
headed h len one nil = pick (lt_z h.hi h.lo) (Err (refuse 2 (len - 16))) (sized h len one nil)

-- lo at byte 0, hi at 4, start of the index at 8, clauses at 10, relations at 12, query at 13, then 1 and 0
unfoldable pub trailer : List ℕ → Reading
trailer s =
    pick (ltb (length s) 16) (Err (refuse 1 0))
    (pick (ltb 60000 (length s)) (Err (refuse 1 0))
    (let t = length s - 16 in
    value_then (i32_at s t) λ lo.
    value_then (i32_at s (t + 4)) λ hi.
    value_then (u16_at s (t + 8)) λ start.
    value_then (u16_at s (t + 10)) λ count.
    headed
    (record { lo = lo; hi = hi; start = start; count = count; relations = get_or s (t + 12) 0; query = get_or s (t + 13) 0 })
    (length s) (get_or s (t + 14) 0) (get_or s (t + 15) 0)))

-- ---- the arities: at most 8, and 0 for the query relation q

unfoldable pub top_arity : ℕ → ℕ → ℕ
top_arity q i = pick (eqb i q) 0 8

unfoldable pub arity_at : List ℕ → ℕ → Cursor → Step
arity_at s q c = do
  (a, next) ← byte_at s c
  value_then (top_arity q c.at) λ top. pick (leb a top) (Ok next) (Err (refuse 3 c.at))

unfoldable pub arities_at : ℕ → List ℕ → ℕ → Cursor → Step
arities_at zero s q c = Ok c
arities_at (suc k) s q c = arity_at s q c >>= arities_at k s q

-- ---- the records: each starts where reading stands, as its index entry at p must say; the index starts where the last one ends

unfoldable pub record_at : List ℕ → ℕ → ℕ → ℕ → Cursor → Step
record_at s start n p c =
    pick (eqb c.at (u16_at s p))
    (clause_at (take start s) n (record { at = c.at; left = 0 }) >>= λ (_, next). Ok next)
    (Err (refuse 4 p))

unfoldable pub clauses_at : ℕ → List ℕ → ℕ → ℕ → ℕ → Cursor → Step
clauses_at zero s start n p c = pick (eqb c.at start) (Ok c) (Err (refuse 4 c.at))
clauses_at (suc k) s start n p c = record_at s start n p c >>= clauses_at k s start n (p + 2)

-- ---- the whole book: the header of an accepted book, or the refusal

unfoldable pub read : List ℕ → Reading
read s = do
  h ← trailer s
  c ← arities_at h.relations (take h.start s) h.query (record { at = 0; left = 0 })
  _ ← clauses_at h.count s h.start h.relations h.start c
  Ok h

-- where the index says that record k starts
unfoldable pub entry_at : List ℕ → ℕ → ℕ → Cursor
entry_at s start k = record { at = u16_at s (start + k * 2); left = 0 }

-- the constraint of the record at c, as a part of the book
unfoldable pub part_at : List ℕ → ℕ → ℕ → Cursor → List ℕ
part_at s start n c = go_on (clause_at (take start s) n c) (λ (l, past). take (past.at - l.rule) (drop l.rule s)) (λ _. [])

-- the constraint of clause k; nothing for a refused book or an absent clause
unfoldable pub constraint_of : List ℕ → ℕ → List ℕ
constraint_of s k =
    go_on (read s)
    (λ h. pick (ltb k h.count) (value_then (entry_at s h.start k) λ c. part_at s h.start h.relations c) [])
    (λ _. [])
