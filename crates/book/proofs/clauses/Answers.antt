use Rattle.std.proofs.Common.{arith, ap₂, ◌∙◌, ◌≡◌, ◌-◌, ◌+◌, ◌*◌, ◌≤◌, rules}
use Rattle.std.proofs.lemmas.Result.{err_from_is_err_and}
use Rattle.cursor.specs.Steps.{pick}
use Rattle.book.specs.Read.{clauses_at}
use Rattle.book.proofs.Laws.{clauses-on, clauses-stop, clauses-end}
use Rattle.book.proofs.clauses.Goals as goal

pub loop-k-init : goal.loop-k-init
loop-k-init c =
    (omega arith, ap₂ (λ (k p : _). clauses_at k c.args.book.now c.args.start c.args.n p c.args.c) (omega arith) (omega arith))

pub returns-in_err-here : goal.returns-in_err-here
returns-in_err-here c =
    let p = err_from_is_err_and c.from_residual.result c.from_residual.ensures.1 in
    rw (p.1, p.2) (clauses-stop _ _ _ _ _ _ (omega arith) c.in_err-here.ensures ∙ c.loop-k.invariant.1)

pub loop-k-preserved : goal.loop-k-preserved
loop-k-preserved c =
    let e : c.args.count - (c.loop-k.k + 1) ≡ c.args.count - c.loop-k.k - 1 = omega arith in
    let q : c.args.p + (c.loop-k.k + 1) * 2 ≡ c.args.p + c.loop-k.k * 2 + 2 = omega arith in
    (omega arith, rw (e, q) (clauses-on _ _ _ _ _ _ (omega arith) c.in_ok-here.ensures ∙ c.loop-k.invariant.1))

pub returns-then-here-start : goal.returns-then-here-start
unfolding pick
returns-then-here-start c = let z : c.args.count - c.loop-k.k ≤ 0 = omega arith in rw (← c.loop-k.invariant.1, clauses-end _ _ _ _ _ _ z) (search rules)

pub returns-else-here-start : goal.returns-else-here-start
unfolding pick
returns-else-here-start c = let z : c.args.count - c.loop-k.k ≤ 0 = omega arith in rw (← c.loop-k.invariant.1, clauses-end _ _ _ _ _ _ z) (search rules)
