use Rattle.std.proofs.Common.{arith, ap, ◌∙◌, ◌≡◌, ◌-◌, ◌+◌}
use Rattle.std.proofs.lemmas.Result.{err_from_is_err_and}
use Rattle.book.specs.Read.{arities_at}
use Rattle.book.proofs.Laws.{arities-on, arities-stop, arities-end}
use Rattle.book.proofs.arities.Goals as goal

pub loop-init : goal.loop-init
loop-init c = (omega arith, ap (λ (k : _). arities_at k c.args.s.now c.args.q c.args.c) (omega arith))

pub returns-in_err-here : goal.returns-in_err-here
returns-in_err-here c =
    let p = err_from_is_err_and c.from_residual.result c.from_residual.ensures.1 in
    rw (p.1, p.2) (arities-stop _ _ _ _ (omega arith) c.in_err-here.ensures ∙ c.loop.invariant.1)

pub loop-preserved : goal.loop-preserved
loop-preserved c =
    let e : c.args.count - (c.loop.counter + 1) ≡ c.args.count - c.loop.counter - 1 = omega arith in
    (omega arith, rw e (arities-on _ _ _ _ (omega arith) c.in_ok-here.ensures ∙ c.loop.invariant.1))

pub returns : goal.returns
returns c = arities-end _ _ _ _ (omega arith) ∙ c.loop.invariant.1
