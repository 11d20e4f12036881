use Rattle.std.proofs.Common.{get_or, length, ℕ, ◌<◌, ◌≡◌, ◌≤◌}
use Rattle.lists.specs.Places.{start}
use Rattle.back.specs.Held.{book_of}
use Rattle.back.proofs.Trace.fill.Given as goal

abbrev pub invariant-loop-n : goal.invariant-loop-n
invariant-loop-n l =
    let b = book_of l.self in
    let z = l.self.size in
    let list = l.self.list.now in
    (l.n ≤ 512) × (length l.block ≡ 512) × (l.i ≡ start b z list l.from l.n)
    × ((k : ℕ) → k < l.n → (get_or l.block k 0 ≡ start b z list l.from k) × (start b z list l.from k < length list))
