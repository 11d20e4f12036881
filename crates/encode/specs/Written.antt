-- What is accepted is the encoding of what was read, and keeps document 01's limits.
use Prim.Native.Nat.{ℕ, ◌+◌, ◌-◌, ◌*◌, ◌≤◌, ◌<◌}
use native.Mathlib.Omega.{arith}
use Rattle.std.specs.Prelude.{◌≡◌, refl, List, Bool, true, false, take, drop, eqb, Ok}
use Rattle.std.proofs.Math.Path.{sym}
use Rattle.std.proofs.Common.{◌∙◌, length-take, take-take}
use Rattle.std.proofs.Math.ListN.{length, get_or}
use Rattle.std.proofs.Math.Seq.{get_or-take, length-take-le}
use borrow.Author.Tests.{lt-ltb, eq-eqb}
use Rattle.whole.specs.Bytes.{u16_at, i32_at, u16_bytes, i32_bytes}
use Rattle.meaning.specs.Book.{Book, none_such}
use Rattle.meaning.specs.Limits.{Limits}
use Rattle.cursor.specs.Steps.{pick, value_then}
use Rattle.book.specs.declared.Header.{Header}
use Rattle.book.specs.Read.{top_arity, read, entry_at, part_at, constraint_of}
use Rattle.book.specs.Meaning.{clause_number, book_in}
use Rattle.book.specs.Joined.{passed, record-read, held, count-is}
use Rattle.book.specs.Trailer.{read-trailed}
use Rattle.encode.specs.Encode.{spell, constraint_bytes, clause_bytes, starts, index_start, trailer_bytes, encode}
use Rattle.encode.specs.Stands.{Stands, Bytes, stands-room, stands-front, stands-is, stands-whole}
use Rattle.encode.specs.RoundTrip.{header_of}
use Rattle.encode.specs.WrittenTree.{Spans, spans-join, u16-spans, i32-spans, i32-fits}
use Rattle.encode.specs.WrittenClause.{part-spans, part-each, clause-written}
use Rattle.book.specs.Arities.{AreArities, arities-read}
use Rattle.encode.specs.WrittenRecords.{bytes-front, AreWritten, clauses-written}
use Rattle.reply.specs.Then.{go_on}

top_small : (q i : ℕ) → top_arity q i ≤ 8
unfolding top_arity pick
top_small q i = go (eqb i q)
  where
    go : (t : Bool) → pick t 0 8 ≤ 8
    go true = omega arith
    go false = omega arith

top-query : (q : ℕ) → top_arity q q ≡ 0
unfolding top_arity pick
top-query q = rw (eq-eqb q q refl)

-- what stands in a front stands in the whole
front-spans : (s : List ℕ) (j : ℕ) {p q : ℕ} (w : List ℕ) → Spans (take j s) p q w → Spans s p q w
front-spans s j {p} w k =
    let room = stands-room (take j s) p w k.stands in
    record { stands = (stands-front s j p w (omega (arith, length-take j s))).0 k.stands; past = k.past }

-- a word is the part from its start to its end
spans-is : (s : List ℕ) {p q : ℕ} (w : List ℕ) → Spans s p q w → take (q - p) (drop p s) ≡ w
spans-is s {p} {q} w k = let n : q - p ≡ length w = omega (arith, k.past) in rw n (stands-is s p w k.stands)

settled : (h : Header) (start count relations : ℕ) → h.start ≡ start → h.count ≡ count → h.relations ≡ relations →
    h ≡ record { lo = h.lo; hi = h.hi; start = start; count = count; relations = relations; query = h.query }
settled h start count relations p q r = rw (← p, ← q, ← r)

-- a trailer at t, and a book out of its parts
trailer-made : (s : List ℕ) → Bytes s → (b : Book) (t : ℕ) → t + 16 ≡ length s → b.lo ≡ i32_at s t → b.hi ≡ i32_at s (t + 4) → index_start b ≡ u16_at s (t + 8) →
    length b.clauses ≡ u16_at s (t + 10) → length b.arities ≡ get_or s (t + 12) 0 → b.query ≡ get_or s (t + 13) 0 → get_or s (t + 14) 0 ≡ 1 →
    get_or s (t + 15) 0 ≡ 0 → Spans s t (length s) (trailer_bytes b)
unfolding trailer_bytes Stands
trailer-made s bytes b t e lo hi start count relations query one nil =
    let e8 : t + 8 ≡ t + 4 + 4 = omega arith in
    let e10 : t + 10 ≡ t + 8 + 2 = omega arith in
    let e12 : t + 12 ≡ t + 10 + 2 = omega arith in
    let e13 : t + 12 + 1 ≡ t + 13 = omega arith in
    let e14 : t + 13 + 1 ≡ t + 14 = omega arith in
    let e15 : t + 14 + 1 ≡ t + 15 = omega arith in
    spans-join {q = t + 4} (i32_bytes b.lo) _ (rw lo (i32-spans s bytes t (omega arith)))
    (spans-join {q = t + 8} (i32_bytes b.hi) _ (rw (e8, hi) (i32-spans s bytes (t + 4) (omega arith)))
    (spans-join {q = t + 10} (u16_bytes (index_start b)) _ (rw (e10, start) (u16-spans s bytes (t + 8) (omega arith)))
    (spans-join {q = t + 12} (u16_bytes (length b.clauses)) _ (rw (e12, count) (u16-spans s bytes (t + 10) (omega arith)))
    (record {
      stands = rw (e13, e14, e15) (omega arith, sym relations, (omega arith, sym query, (omega arith, one, (omega arith, nil, omega arith))));
      past = omega arith;
    }))))

book-made : (s : List ℕ) (b : Book) (start t : ℕ) → Spans s 0 (length b.arities) b.arities → Spans s (length b.arities) start (spell clause_bytes b.clauses) →
    Spans s start t (spell u16_bytes (starts (length b.arities) b.clauses)) → Spans s t (length s) (trailer_bytes b) → encode b ≡ s
unfolding encode
book-made s b start t a c i r =
    let w = spans-join b.arities _ a (spans-join (spell clause_bytes b.clauses) _ c (spans-join _ _ i r)) in
    sym (stands-whole s _ w.stands (omega (arith, w.past)))

module _ (s : List ℕ) (h : Header) (good : read s ≡ Ok h) where
  -- where the index starts the trailer is still to come
  start-in : h.start ≤ length s
  start-in = let k = (read-trailed s h good).kept in omega arith

  pub short-read : length s ≤ 60000
  short-read = (read-trailed s h good).short

  pub relations-read : h.relations ≡ length (book_in s h).arities
  unfolding book_in
  relations-read = let k = (read-trailed s h good).kept in sym (length-take-le h.relations s (omega (arith, start-in)))

  pub count-read : h.count ≡ length (book_in s h).clauses
  count-read = sym (count-is s h good)

  arities-are : AreArities (take h.start s) h.query h.relations (record { at = 0; left = 0 }) (passed s h good).first
  arities-are = arities-read (take h.start s) h.query h.relations _ (omega arith) (passed s h good).arities

  arity-small : (j : ℕ) → j < h.relations → get_or s j 0 ≤ top_arity h.query j
  arity-small j b =
      let k = (read-trailed s h good).kept in
      let z : 0 + j ≡ j = omega arith in
      let w : get_or (take h.start s) j 0 ≤ top_arity h.query j = rw z at (arities-are.each j b) in
      rw (get_or-take h.start s j 0 (omega arith)) at w

  arities-spans : Spans s 0 (length (book_in s h).arities) (book_in s h).arities
  unfolding book_in
  arities-spans =
      let k = (read-trailed s h good).kept in
      let z : 0 + h.relations ≡ h.relations = omega arith in
      rw (← relations-read) (rw z at (part-spans s 0 h.relations (omega (arith, start-in))))

module _ (s : List ℕ) (h : Header) (bytes : Bytes s) (good : read s ≡ Ok h) where
  clauses-are : AreWritten s bytes h.start h.relations h.count h.start (length (book_in s h).arities) (book_in s h).clauses
  unfolding book_in clause_number entry_at
  clauses-are =
      let w = passed s h good in
      let k = (read-trailed s h good).kept in
      let first : w.first.at ≡ length (book_in s h).arities = omega (arith, (arities-are s h good).past, relations-read s h good) in
      rw first at (clauses-written s bytes h.start h.relations h.count h.start w.first (clause_number s h) (λ i. refl) k.room
      (start-in s h good) (omega arith) w.clauses)

  pub start-read : h.start ≡ index_start (book_in s h)
  unfolding index_start
  start-read = clauses-are.words.past

  -- the book settles the header
  pub header_read : h ≡ header_of (book_in s h)
  unfolding header_of book_in
  header_read = settled h _ _ _ start-read (count-read s h good) (relations-read s h good)

  pub encode-read : encode (book_in s h) ≡ s
  unfolding book_in
  encode-read =
      let w = read-trailed s h good in
      let k = w.kept in
      let a = clauses-are in
      let t : ℕ = length s - 16 in
      let end : h.start + h.count * 2 ≡ t = omega arith in
      book-made s (book_in s h) h.start t (arities-spans s h good) (front-spans s h.start _ a.words) (rw end at a.index)
      (trailer-made s bytes (book_in s h) t (omega (arith, w.long)) w.lo w.hi (sym start-read ∙ w.start)
      (sym (count-read s h good) ∙ w.count) (sym (relations-read s h good) ∙ w.relations) w.query k.ones k.nils)

  -- ---- the limits

  pub limits-read : Limits (book_in s h)
  unfolding book_in
  limits-read =
      let w = read-trailed s h good in
      let k = w.kept in
      let size = relations-read s h good in
      let many = count-read s h good in
      record {
        some = omega arith;
        few = omega arith;
        arities = part-each s 0 h.relations (omega (arith, start-in s h good)) (λ (n : ℕ). n ≤ 8) small;
        query = omega arith;
        nullary = get_or-take h.relations s h.query 0 k.query ∙ omega (arith, arity-small s h good h.query k.query, top-query h.query);
        short = omega arith;
        clauses = rw (take-take h.relations h.start s k.room) at clauses-are.limits;
        window = k.window;
        lo = rw w.lo (i32-fits s bytes _ (omega (arith, w.long)));
        hi = rw w.hi (i32-fits s bytes _ (omega (arith, w.long)));
      }
    where
      small : (j : ℕ) → j < h.relations → get_or s (0 + j) 0 ≤ 8
      small j b = let z : 0 + j ≡ j = omega arith in rw z (omega (arith, arity-small s h good j b, top_small h.query j))

  -- ---- the constraint that is handed out

  pub constraint-written : (k : ℕ) → k < h.count → constraint_of s k ≡ constraint_bytes (get_or (book_in s h).clauses k none_such).rule
  unfolding constraint_of go_on part_at pick value_then
  constraint-written k below =
      let w = record-read s h good k below in
      let d = (read-trailed s h good).kept in
      let room : h.relations ≤ length (take h.start s) = omega (arith, length-take-le h.start s (start-in s h good)) in
      let r = clause-written (take h.start s) (bytes-front s h.start bytes) h.relations room _ w.reads in
      rw (good, lt-ltb k h.count below, w.reads, (held s h good k below w.clause w.past w.reads).is)
      (spans-is s _ (front-spans s h.start _ r.rule))
