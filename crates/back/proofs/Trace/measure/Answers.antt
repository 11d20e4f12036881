use Rattle.std.proofs.Common.{arith, ◌+◌, ◌≤◌}
use Rattle.std.proofs.lemmas.Grind.{div_ceil_times}
use Rattle.back.specs.Held.{book_of}
use Rattle.back.proofs.Places.{Cells, cells_of}
use Rattle.back.proofs.Laws.{counted-first, counted-here, counted-small, counted-more, counted-all, marking-first, marking-more, marked_all}
use Rattle.back.proofs.Trace.measure.Goals as goal
use Rattle.back.proofs.Trace.measure.Goals.{After-row_at-row}

-- the step's row, and where the step ends
cells : (c : After-row_at-row) → Cells (book_of c.args.self.now) c.args.self.now.list.now c.loop-i.i c.row_at-row.result
cells c = cells_of c.args.self.now.table.now.book.accepted c.row_at-row.ensures

ends : (c : After-row_at-row) → c.loop-i.i + (1 + c.row_at-row.result.variables + c.args.self.now.size) ≤ 1000000
ends c =
    let t = c.args.self.now.traced in
    omega (arith, (counted-here t c.loop-i.invariant.0 c.loop-i-test.true).whole, (cells c).vars, t.few)

pub loop-i-init : goal.loop-i-init
loop-i-init c = let t = c.args.self.now in (counted-first _ _ _ _ t.traced.size, marking-first _ _ _ _ c.told-marks)

pub keep-requires : goal.keep-requires
keep-requires c = (omega (arith, c.loop-i.invariant.1.few), omega (arith, c.loop-i-test.true, c.args.self.now.traced.few))

pub row_at-row-requires : goal.row_at-row-requires
row_at-row-requires c = counted-here c.args.self.now.traced c.loop-i.invariant.0 c.loop-i-test.true

pub body_count-requires : goal.body_count-requires
body_count-requires c = rw c.body_relation.ensures (cells (goal.at.body_count-requires c).After-row_at-row).body-small

pub overflow_add-counts : goal.overflow_add-counts
overflow_add-counts c =
    let t = c.args.self.now.traced in
    let a = cells (goal.at.overflow_add-counts c).After-row_at-row in
    record { fits = omega (arith, counted-small t c.loop-i.invariant.0 c.loop-i-test.true a c.body_relation.ensures c.body_count.ensures, a.few, t.few) }

pub bounds-counts-row : goal.bounds-counts-row
bounds-counts-row c = (cells (goal.at.bounds-counts-row c).After-row_at-row).head_small

pub overflow_add-i : goal.overflow_add-i
overflow_add-i c = record { fits = omega (arith, ends (goal.at.overflow_add-i c).After-row_at-row) }

pub overflow_add-i-in-loop-i : goal.overflow_add-i-in-loop-i
overflow_add-i-in-loop-i c = record { fits = omega (arith, ends (goal.at.overflow_add-i-in-loop-i c).After-row_at-row) }

pub loop-i-preserved : goal.loop-i-preserved
loop-i-preserved c =
    let t = c.args.self.now.traced in
    let (counted, marking) = c.loop-i.invariant in
    let q = c.loop-i-test.true in
    let a = cells (goal.at.loop-i-preserved c).After-row_at-row in
    (counted-more t counted q a c.body_relation.ensures c.body_count.ensures, marking-more t counted marking q c.keep.ensures)

pub returns : goal.returns
returns c =
    let (counted, marking) = c.loop-i.invariant in
    let t = c.args.self.now.traced in
    let (low, high) = div_ceil_times c.loop-i.k 512 (omega arith) in
    let e = c.div_ceil.ensures in
    record {
      is = counted-all t counted c.loop-i-test.false c.args.relation c.requires;
      marked = marked_all t counted marking c.loop-i-test.false (omega (arith, low, e)) (omega (arith, high, e));
      rest = λ q k. marking.rest q (omega (arith, low, e));
    }
