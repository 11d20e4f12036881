use Rattle.std.proofs.Common.{arith, ap, ◌∙◌, ◌≡◌, ◌-◌, ◌+◌}
use Rattle.std.proofs.lemmas.Result.{err_from_is_err_and}
use Rattle.cursor.specs.Clause.{arguments_at}
use Rattle.cursor.proofs.Laws.{arguments-on, arguments-stop, arguments-end}
use Rattle.cursor.proofs.Cursor.arguments.Goals as goal

pub loop-init : goal.loop-init
loop-init c = (omega arith, ap (λ (k : _). arguments_at k c.args.s.now c.args.v c.args.self) (omega arith))

pub returns-in_err-next : goal.returns-in_err-next
returns-in_err-next c =
    let p = err_from_is_err_and c.from_residual.result c.from_residual.ensures.1 in
    rw (p.1, p.2) (arguments-stop _ _ _ _ (omega arith) c.in_err-next.ensures ∙ c.loop.invariant.1)

pub loop-preserved : goal.loop-preserved
loop-preserved c =
    let e : c.args.count - (c.loop.counter + 1) ≡ c.args.count - c.loop.counter - 1 = omega arith in
    (omega arith, rw e (arguments-on _ _ _ _ (omega arith) c.in_ok-next.ensures ∙ c.loop.invariant.1))

pub returns : goal.returns
returns c = arguments-end _ _ _ _ (omega arith) ∙ c.loop.invariant.1
