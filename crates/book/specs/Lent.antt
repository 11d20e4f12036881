-- Bytes that a reference lends, with the place where they stand, and the part of a lent book that is handed out.
use Rattle.std.specs.Prelude.{ℕ, ◌+◌, ◌-◌, ◌≡◌, List, take, drop}
use Rattle.std.proofs.Common.{arith, ap}
use Rattle.std.specs.Borrow.{Bor}
use Rattle.book.specs.declared.Span.{Span}
use Rattle.book.specs.Read.{constraint_of}
use Rattle.book.specs.Span.{span_of, span-of}

-- where they stand in memory, which is a block and a byte of it, and what they are
pub record Lent : Type 0 where
  pub block : ℕ
  pub at : ℕ
  pub bytes : List ℕ

abbrev pub lent : Bor (List ℕ) → Lent
lent x = record { block = x.ref_ptr.0; at = x.ref_ptr.1; bytes = x.now }

-- the very part of x that p is, and no copy
abbrev pub part_of : Lent → Span → Lent
part_of x p = record { block = x.block; at = x.at + p.start; bytes = take (p.end - p.start) (drop p.start x.bytes) }

-- the promise of `constraint_of`: the part of the book x where the constraint of clause k stands
unfoldable pub handed : Lent → ℕ → Lent
handed x k = part_of x (span_of x.bytes k)

-- its bytes are the constraint of clause k
pub handed-bytes : (x : Lent) (k : ℕ) → (handed x k).bytes ≡ constraint_of x.bytes k
unfolding handed
handed-bytes x k = (span-of x.bytes k).part

-- what is cut out at a span p that was found is the part
pub handed-is : (x : Lent) (k : ℕ) {p : Span} → p ≡ span_of x.bytes k →
    record { block = x.block; at = p.start + x.at; bytes = take (p.end - p.start) (drop p.start x.bytes) } ≡ handed x k
unfolding handed
handed-is x k {p} e =
    let place : p.start + x.at ≡ (handed x k).at = omega (arith, ap (λ (q : Span). q.start) e) in
    let word : take (p.end - p.start) (drop p.start x.bytes) ≡ (handed x k).bytes = rw e in
    λ i. record { block = x.block; at = place i; bytes = word i }
