-- Reading an encoded book within the limits gives that book.
use Rattle.std.specs.Prelude.{ℕ, suc, ◌+◌, ◌-◌, ◌*◌, ◌≤◌, ◌<◌, ◌≡◌, refl, false, List, [], ◌∷◌, ◌++◌, take, ℤ, pos, negsuc, ◌≤ℤ◌, Ok}
use Rattle.std.proofs.Math.Nat.{zero-add}
use Rattle.std.proofs.Common.{arith, ap, ◌∙◌, length-append, leb→le}
use Rattle.std.proofs.Math.ListN.{length, get_or}
use Rattle.std.specs.Int.Signed.{lt_z}
use borrow.Author.Tests.{lt-ltb, le-ltb, eq-eqb}
use Rattle.whole.specs.Bytes.{u16_at, i32_at, u16_bytes, i32_bytes}
use Rattle.meaning.specs.Book as meant
use Rattle.meaning.specs.Limits.{Limits}
use Rattle.cursor.specs.Steps.{pick, value_then}
use Rattle.book.specs.declared.Header.{Header}
use Rattle.book.specs.Read.{sized, headed, trailer, read, entry_at}
use Rattle.book.specs.Meaning.{clause_number, book_in}
use Rattle.book.specs.Answer.{accepted, told, answer}
use Rattle.encode.specs.Encode.{spell, clause_bytes, starts, index_start, trailer_bytes, encode}
use Rattle.encode.specs.Stands.{Stands, stands_at, stands-split, stands-front, stands-get, stands-is, stands_self}
use Rattle.encode.specs.Digits.{u16-length, i32-length, u16-read, i32-read}
use Rattle.encode.specs.Reads.{spell-length}
use Rattle.encode.specs.Index.{arities-read, Rows, rows-stand, records-read, records-are}
use Rattle.reply.specs.Then.{go_on}

-- ---- the trailer

lt_z-not : (a b : ℤ) → a ≤ℤ b → lt_z b a ≡ false
lt_z-not (pos a) (pos b) h = le-ltb b a (leb→le a b h.le)
lt_z-not (pos a) (negsuc b) h = absurd h.le
lt_z-not (negsuc a) (pos b) h = refl
lt_z-not (negsuc a) (negsuc b) h = le-ltb a b (leb→le b a h.le)

unfoldable pub header_of : meant.Book → Header
header_of b = record {
  lo = b.lo;
  hi = b.hi;
  start = index_start b;
  count = length b.clauses;
  relations = length b.arities;
  query = b.query;
}

starts-length : (p : ℕ) (cs : List meant.Clause) → length (starts p cs) ≡ length cs
unfolding starts
starts-length p [] = refl
starts-length p (c ∷ cs) = ap suc (starts-length (p + length (clause_bytes c)) cs)

-- where the trailer starts
abbrev trailer_start : meant.Book → ℕ
trailer_start b = index_start b + length b.clauses * 2

-- the parts of an encoded book stand where the trailer says
pub record Holds (s : List ℕ) (b : meant.Book) : Type 0 where
  arities : Stands s 0 b.arities
  records : Stands s (length b.arities) (spell clause_bytes b.clauses)
  end : length b.arities + length (spell clause_bytes b.clauses) ≡ index_start b
  index : Stands s (index_start b) (spell u16_bytes (starts (length b.arities) b.clauses))
  trailer : Stands s (trailer_start b) (trailer_bytes b)
  size : trailer_start b + 16 ≡ length s

trailer-length : (b : meant.Book) → length (trailer_bytes b) ≡ 16
unfolding trailer_bytes
trailer-length b = simp (length-append, i32-length, u16-length)

pub holds : (b : meant.Book) → Holds (encode b) b
unfolding encode index_start
holds b =
    let s = encode b in
    let ns = b.arities in
    let rs = spell clause_bytes b.clauses in
    let is = spell u16_bytes (starts (length ns) b.clauses) in
    let t = trailer_bytes b in
    let len : length is ≡ length b.clauses * 2 = spell-length u16_bytes 2 u16-length (starts (length ns) b.clauses) ∙ ap (λ (n : ℕ). n * 2) (starts-length (length ns) b.clauses) in
    let x = stands-split s 0 ns (rs ++ (is ++ t)) (stands_self s) in
    let y = stands-split s (length ns) rs (is ++ t) (stands_at s (rs ++ (is ++ t)) (zero-add (length ns)) x.1) in
    let z = stands-split s (length ns + length rs) is t y.1 in
    record {
      arities = x.0;
      records = y.0;
      end = refl;
      index = z.0;
      trailer = rw len at z.1;
      size = omega (arith, length-append ns (rs ++ (is ++ t)), length-append rs (is ++ t), length-append is t, trailer-length b);
    }

-- the trailer's fields, which stand at t
record Trailer (s : List ℕ) (t : ℕ) (b : meant.Book) : Type 0 where
  lo : i32_at s t ≡ b.lo
  hi : i32_at s (t + 4) ≡ b.hi
  start : u16_at s (t + 8) ≡ index_start b
  count : u16_at s (t + 10) ≡ length b.clauses
  relations : get_or s (t + 12) 0 ≡ length b.arities
  query : get_or s (t + 13) 0 ≡ b.query
  one : get_or s (t + 14) 0 ≡ 1
  nil : get_or s (t + 15) 0 ≡ 0

fields : (s : List ℕ) (t : ℕ) (b : meant.Book) → Limits b → Stands s t (trailer_bytes b) → Trailer s t b
unfolding trailer_bytes
fields s t b lim h =
    let last = length b.arities ∷ b.query ∷ 1 ∷ 0 ∷ [] in
    let x = stands-split s t (i32_bytes b.lo) _ h in
    let y = stands-split s (t + 4) (i32_bytes b.hi) _ (stands_at s _ (omega (arith, i32-length b.lo)) x.1) in
    let z = stands-split s (t + 8) (u16_bytes (index_start b)) _ (stands_at s _ (omega (arith, i32-length b.hi)) y.1) in
    let w = stands-split s (t + 10) (u16_bytes (length b.clauses)) last (stands_at s _ (omega (arith, u16-length (index_start b))) z.1) in
    let l : Stands s (t + 12) last = stands_at s last (omega (arith, u16-length (length b.clauses))) w.1 in
    let byte : (i : ℕ) → i < 4 → get_or s (t + (12 + i)) 0 ≡ get_or last i 0 =
    λ i k. let e : t + (12 + i) ≡ t + 12 + i = omega arith in rw e (stands-get s (t + 12) last i l k) in
    record {
      lo = i32-read s t b.lo lim.lo x.0;
      hi = i32-read s (t + 4) b.hi lim.hi y.0;
      start = u16-read s (t + 8) (index_start b) z.0;
      count = u16-read s (t + 10) (length b.clauses) w.0;
      relations = byte 0 (omega arith);
      query = byte 1 (omega arith);
      one = byte 2 (omega arith);
      nil = byte 3 (omega arith);
    }

-- ---- the book

module _ (s : List ℕ) (b : meant.Book) (lim : Limits b) (small : length s ≤ 60000) (h : Holds s b) where
  trailer-read : trailer s ≡ Ok (header_of b)
  unfolding trailer headed sized pick value_then header_of
  trailer-read =
      let f : Trailer s (trailer_start b) b = fields s (trailer_start b) b lim h.trailer in
      let t : length s - 16 ≡ trailer_start b = omega (arith, h.size) in
      rw (
        le-ltb (length s) 16 (omega (arith, h.size)),
        le-ltb 60000 (length s) small,
        t,
        f.lo,
        f.hi,
        f.start,
        f.count,
        f.relations,
        f.query,
        f.one,
        f.nil,
        lt_z-not b.lo b.hi lim.window,
        le-ltb (length b.arities) 1 lim.some,
        le-ltb 16 (length b.arities) lim.few,
        le-ltb (index_start b) (length b.arities) (omega (arith, h.end)),
        le-ltb 64 (length b.clauses) lim.short,
        lt-ltb b.query (length b.arities) lim.query,
        eq-eqb (trailer_start b + 16) (length s) h.size,
      )

  pub front : Stands (take (index_start b) s) 0 b.arities
  front = (stands-front s (index_start b) 0 b.arities (omega (arith, h.end))).1 h.arities

  pub rows : Rows (take (index_start b) s) s (length b.arities) (index_start b) b.clauses
  rows = rows-stand (take (index_start b) s) s (length b.arities) (index_start b) b.clauses
      ((stands-front s (index_start b) (length b.arities) (spell clause_bytes b.clauses) (omega (arith, h.end))).1 h.records)
      h.index

  pub read-holds : read s ≡ Ok (header_of b)
  unfolding read go_on header_of
  read-holds =
      let q : get_or (take (index_start b) s) b.query 0 ≡ 0 =
      rw zero-add at (stands-get (take (index_start b) s) 0 b.arities b.query front lim.query) ∙ lim.nullary in
      let r = records-read s b.arities (index_start b) lim.few front (length b.arities) (index_start b) 0 b.clauses lim.clauses rows h.end in
      rw (trailer-read, arities-read (take (index_start b) s) b.query q 0 0 b.arities lim.arities front, zero-add (length b.arities), r.1)

  book-holds : book_in s (header_of b) ≡ b
  unfolding book_in clause_number entry_at header_of
  book-holds =
      let r = records-are s b.arities (index_start b) lim.few front (length b.arities) (index_start b) b.clauses (clause_number s (header_of b)) lim.clauses rows (λ k. refl) in
      rw (stands-is s 0 b.arities h.arities, r)

pub read-encode : (b : meant.Book) → Limits b → length (encode b) ≤ 60000 → (read (encode b) ≡ Ok (header_of b)) × (book_in (encode b) (header_of b) ≡ b)
read-encode b lim small = (read-holds (encode b) b lim small (holds b), book-holds (encode b) b lim small (holds b))

pub answer-encode : (b : meant.Book) → Limits b → length (encode b) ≤ 60000 → answer (encode b) ≡ accepted b
unfolding answer told
answer-encode b lim small = let r = read-encode b lim small in rw (r.0, r.1)
