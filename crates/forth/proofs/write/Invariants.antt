use Rattle.std.proofs.Common.{length, ◌-◌, ◌≡◌}
use Rattle.meaning.specs.State as meanings
use Rattle.book.specs.Held.{meant}
use Rattle.state.specs.State.{held}
use Rattle.forth.proofs.Going.{Going}
use Rattle.forth.proofs.write.Given as goal

abbrev pub invariant-loop-i : goal.invariant-loop-i
invariant-loop-i l =
    let b = meant l.table.book in
    Going b meanings.flags l.list l.initial.out l.out (held b l.state) l.i × (length l.state.flags ≡ 16) × (length l.state.rows ≡ 16)

abbrev pub decreases-loop-i : goal.decreases-loop-i
decreases-loop-i l = length l.list - l.i
