use Rattle.std.proofs.Common.{arith, length-set, refl}
use Rattle.book.specs.Trailer.{read-trailed}
use Rattle.table.specs.Table.{IsRow}
use Rattle.table.proofs.Laws.{row_fits, row-says, rows_more}
use Rattle.table.proofs.Table.of.Goals as goal

pub row_of-requires : goal.row_of-requires
row_of-requires c = row_fits _ _ c.args.book.accepted _ _ c.«record».ensures

pub loop-k-init : goal.loop-k-init
loop-k-init c =
    let w = (read-trailed _ _ c.args.book.accepted).kept in
    (refl, w.count, λ j b. absurd (let z : ⊥ = omega arith in z))

pub loop-k-preserved : goal.loop-k-preserved
loop-k-preserved c =
    let t = c.loop-k in
    let s = c.args.book.bytes.now in
    let h = c.args.book.header in (
      rw length-set t.invariant.0,
      t.invariant.1,
      rows_more (IsRow s h) t.rows t.k (omega (arith, t.invariant.0, t.invariant.1))
          (rw c.row_of.ensures (row-says s h c.args.book.accepted t.k _ c.«record».ensures))
          t.invariant.2,
    )

pub invariant_of-result : goal.invariant_of-result
invariant_of-result c = record { tabled = record { row = λ k b. c.loop-k.invariant.2 k (omega arith) } }
