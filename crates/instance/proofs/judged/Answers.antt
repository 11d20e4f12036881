use Rattle.std.proofs.Common.{arith, refl}
use Rattle.instance.proofs.Laws.{code-short, code-less, code_out, code-false, code-true, as-refused, as-ok}
use Rattle.instance.proofs.judged.Goals as goal

pub returns-then-list-from : goal.returns-then-list-from
returns-then-list-from c = let a = c.args in as-refused (code-short c.row-row.ensures.says a.list.now a.i a.more c.requires.1 c.if-list-from.true) c.refuse.ensures

pub returns-then-list-from-2 : goal.returns-then-list-from-2
returns-then-list-from-2 c = let a = c.args in as-refused (code-less c.row-row.ensures.says a.list.now a.i a.more c.requires.1 c.if-list-from.false c.if-list-from-2.true) c.refuse-then-list-from-2.ensures

pub returns-then-out-from : goal.returns-then-out-from
returns-then-out-from c =
    let a = c.args in
    as-refused (code_out c.row-row.ensures.says a.list.now a.i a.more c.requires.1 c.if-list-from.false c.if-list-from-2.false c.first_out-out.ensures c.if-out-from.true) c.refuse-then-out-from.ensures

pub truth-requires : goal.truth-requires
truth-requires c = let w = c.row-row.ensures.says in record { v_bound = (w.few, omega arith); tree = w.tree }

pub returns-then-truth : goal.returns-then-truth
returns-then-truth c =
    let a = c.args in
    as-ok (code-true c.row-row.ensures.says a.list.now a.i a.more c.requires.1 c.if-list-from.false c.if-list-from-2.false c.first_out-out.ensures c.if-out-from.false
    c.truth.ensures c.if-truth.true) refl

pub returns-else-truth : goal.returns-else-truth
returns-else-truth c =
    let a = c.args in
    as-refused (code-false c.row-row.ensures.says a.list.now a.i a.more c.requires.1 c.if-list-from.false c.if-list-from-2.false c.first_out-out.ensures c.if-out-from.false
    c.truth.ensures c.if-truth.false) c.refuse-else-truth.ensures
