-- Where the constraint of a clause stands in the writing of a book, and that the part handed out for it is the one that stands there.
use Prim.Native.Nat.{ℕ, zero, suc, ◌+◌, ◌*◌, ◌≤◌, ◌<◌}
use Rattle.std.proofs.Common.{arith, ap, ◌∙◌, append_assoc, length-append}
use Rattle.std.specs.Prelude.{◌≡◌, refl, List, [], ◌∷◌, ◌++◌, get_or, take, drop}
use Rattle.std.proofs.Math.Path.{sym}
use Rattle.std.proofs.Math.ListN.{length}
use borrow.Author.Tests.{lt-ltb}
use Rattle.whole.specs.Bytes.{u16_at, u16_bytes}
use Rattle.meaning.specs.Book.{Clause, Book, none_such}
use Rattle.meaning.specs.Limits.{Limits}
use Rattle.meaning.specs.Wf.{each_at}
use Rattle.cursor.specs.Steps.{pick, value_then}
use Rattle.book.specs.declared.Span.{Span}
use Rattle.book.specs.Read.{entry_at}
use Rattle.book.specs.Answer.{answer, accepted}
use Rattle.book.specs.Span.{span_at, span_of}
use Rattle.book.specs.Lent.{Lent, handed, handed-bytes}
use Rattle.encode.specs.Encode.{spell, constraint_bytes, atom_bytes, body_bytes, clause_bytes, starts, index_start, trailer_bytes, encode}
use Rattle.encode.specs.Stands.{Bytes}
use Rattle.encode.specs.Records.{head_start, rule_start, lay_of, Parts, clause-read}
use Rattle.encode.specs.Index.{Rows}
use Rattle.encode.specs.RoundTrip.{header_of, holds, front, rows, read-holds}
use Rattle.encode.specs.Exact.{accepted-is-written}
use Rattle.encode.specs.Part.{part-written}
use Rattle.reply.specs.Then.{go_on}

-- ---- the writing around a constraint

-- of a record, all but its constraint
unfoldable pub record_front : Clause → List ℕ
record_front c = c.vars ∷ (body_bytes c.body ++ atom_bytes c.head)

-- before the constraint of clause k: the arities, the records before k, and its own record's front
unfoldable pub written_before : Book → ℕ → List ℕ
written_before b k = b.arities ++ (spell clause_bytes (take k b.clauses) ++ record_front (get_or b.clauses k none_such))

-- after it: the other records, the index and the trailer
unfoldable pub written_after : Book → ℕ → List ℕ
written_after b k =
    spell clause_bytes (drop (suc k) b.clauses) ++ (spell u16_bytes (starts (length b.arities) b.clauses) ++ trailer_bytes b)

clause-split : (c : Clause) → clause_bytes c ≡ record_front c ++ constraint_bytes c.rule
unfolding clause_bytes record_front
clause-split c = rw append_assoc

spell-split : {A : Type 0} (f : A → List ℕ) (d : A) (l : List A) (k : ℕ) → k < length l →
    spell f l ≡ spell f (take k l) ++ (f (get_or l k d) ++ spell f (drop (suc k) l))
unfolding spell
spell-split f d [] k h = absurd (let z : ⊥ = omega arith in z)
spell-split f d (x ∷ l) zero h = refl
spell-split f d (x ∷ l) (suc k) h = rw (spell-split f d l k (omega arith), append_assoc)

-- the whole book
pub writing-split : (b : Book) (k : ℕ) → k < length b.clauses →
    encode b ≡ written_before b k ++ (constraint_bytes (get_or b.clauses k none_such).rule ++ written_after b k)
unfolding encode written_before written_after
writing-split b k h = rw (spell-split clause_bytes none_such b.clauses k h, clause-split (get_or b.clauses k none_such)) (simp append_assoc)

-- ---- the span

-- row k of the index: where its record stands, the first at p
row_at : (front s : List ℕ) (p q : ℕ) (cs : List Clause) → Rows front s p q cs → (k : ℕ) → k < length cs →
    let here = p + length (spell clause_bytes (take k cs)) in Parts front here (get_or cs k none_such) × (u16_at s (q + k * 2) ≡ here)
unfolding spell
row_at front s p q [] w k h = absurd (let z : ⊥ = omega arith in z)
row_at front s p q (c ∷ cs) w zero h =
    let e : p + 0 ≡ p = omega arith in
    let f : q + 0 * 2 ≡ q = omega arith in
    rw (e, f) (w.0, w.1)
row_at front s p q (c ∷ cs) w (suc k) h =
    let e : p + length (clause_bytes c) + length (spell clause_bytes (take k cs)) ≡ p + length (clause_bytes c ++ spell clause_bytes (take k cs)) =
    omega (arith, length-append (clause_bytes c) (spell clause_bytes (take k cs))) in
    let f : q + 2 + k * 2 ≡ q + suc k * 2 = omega arith in
    rw (e, f) at (row_at front s (p + length (clause_bytes c)) (q + 2) cs w.2 k (omega arith))

-- where the constraint of a record at p begins, and where the record ends
front_length : (p : ℕ) (c : Clause) → rule_start p c ≡ p + length (record_front c)
unfolding rule_start head_start record_front
front_length p c = omega (arith, length-append (body_bytes c.body) (atom_bytes c.head))

clause-length : (c : Clause) → length (clause_bytes c) ≡ length (record_front c) + length (constraint_bytes c.rule)
clause-length c = ap length (clause-split c) ∙ length-append (record_front c) (constraint_bytes c.rule)

before-length : (b : Book) (k : ℕ) →
    length (written_before b k) ≡ length b.arities + length (spell clause_bytes (take k b.clauses)) + length (record_front (get_or b.clauses k none_such))
unfolding written_before
before-length b k =
    let w = spell clause_bytes (take k b.clauses) in
    let c = record_front (get_or b.clauses k none_such) in
    omega (arith, length-append b.arities (w ++ c), length-append w c)

module _ (b : Book) (lim : Limits b) (small : length (encode b) ≤ 60000) (k : ℕ) (below : k < length b.clauses) where
  abbrev clause : Clause
  clause = get_or b.clauses k none_such

  abbrev standing : Span
  standing = record { start = length (written_before b k); end = length (written_before b k) + length (constraint_bytes clause.rule) }

  pub span-written : span_of (encode b) k ≡ standing
  unfolding span_of span_at go_on pick value_then entry_at header_of lay_of
  span-written =
      let s = encode b in
      let p : ℕ = length b.arities + length (spell clause_bytes (take k b.clauses)) in
      let h = holds b in
      let w = row_at (take (index_start b) s) s (length b.arities) (index_start b) b.clauses (rows s b lim small h) k below in
      let l = each_at _ none_such b.clauses lim.clauses k below in
      let one : rule_start p clause ≡ length (written_before b k) = front_length p clause ∙ sym (before-length b k) in
      let two : p + length (clause_bytes clause) ≡ length (written_before b k) + length (constraint_bytes clause.rule) =
      omega (arith, clause-length clause, before-length b k) in
      rw (
        read-holds s b lim small h,
        lt-ltb k (length b.clauses) below,
        w.1,
        clause-read (take (index_start b) s) b.arities lim.few (front s b lim small h) p clause l w.0 0,
        one,
        two,
      )

-- in a book that was accepted, the constraint of clause k begins right after what is written before it
pub start-written : (s : List ℕ) → Bytes s → (b : Book) → answer s ≡ accepted b → (k : ℕ) → k < length b.clauses →
    (span_of s k).start ≡ length (written_before b k)
start-written s bytes b held k below =
    let (is, lim, small) = accepted-is-written s bytes b held in
    rw is at (ap (λ (p : Span). p.start) (span-written b lim (rw is small) k below))

-- ---- the part

-- a book b is lent as m, and x is handed out for clause k
pub record Placed (m : Lent) (b : Book) (k : ℕ) (x : Lent) : Type 0 where
  -- its bytes are the writing of the constraint,
  pub bytes : x.bytes ≡ constraint_bytes (get_or b.clauses k none_such).rule
  -- with the rest of the book's writing around them,
  pub around : m.bytes ≡ written_before b k ++ (x.bytes ++ written_after b k)
  -- and it stands in the lent book, right after what is written before
  pub block : x.block ≡ m.block
  pub at : x.at ≡ m.at + length (written_before b k)

pub part_placed : (m : Lent) → Bytes m.bytes → (b : Book) → answer m.bytes ≡ accepted b → (k : ℕ) → k < length b.clauses →
    (x : Lent) → x ≡ handed m k → Placed m b k x
unfolding handed
part_placed m bytes b held k below x e =
    let word : x.bytes ≡ constraint_bytes (get_or b.clauses k none_such).rule =
    ap (λ (y : Lent). y.bytes) e ∙ handed-bytes m k ∙ part-written m.bytes bytes b held k below in
    record {
      bytes = word;
      around = sym (accepted-is-written m.bytes bytes b held).0 ∙ rw word (writing-split b k below);
      block = ap (λ (y : Lent). y.block) e;
      at = ap (λ (y : Lent). y.at) e ∙ ap (λ (n : ℕ). m.at + n) (start-written m.bytes bytes b held k below);
    }
