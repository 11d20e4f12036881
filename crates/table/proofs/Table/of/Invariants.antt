use Rattle.std.proofs.Common.{get_or, length, ℕ, ◌<◌, ◌≡◌, ◌≤◌}
use Rattle.table.specs.Table.{IsRow, no_row}
use Rattle.table.proofs.Table.of.Given as goal

abbrev pub invariant-loop-k : goal.invariant-loop-k
invariant-loop-k l =
    (length l.rows ≡ 64) × (l.book.header.count ≤ 64)
    × ((j : ℕ) → j < l.k → IsRow l.book.bytes.now l.book.header j (get_or l.rows j no_row))
