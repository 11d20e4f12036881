use Rattle.std.proofs.Common.{arith, length, ◌∙◌, ◌<◌, ◌≤◌}
use Rattle.std.proofs.lemmas.Result.{err_from_is_err_and}
use Rattle.book.specs.Held.{meant}
use Rattle.book.specs.Trailer.{read-trailed}
use Rattle.book.specs.Arities.{relations-are}
use Rattle.parts.proofs.Reading.{scan-more, scan-stop, scan-end, scan-over}
use Rattle.parts.proofs.starts_of.Goals as goal
use Rattle.parts.proofs.starts_of.Goals.{In-loop-k, After-loop-k}

below : (c : In-loop-k) → c.loop-k.k < length (meant c.args.book.now).arities
below c = omega (arith, relations-are _ _ c.args.book.now.accepted, c.relations-k-end.ensures)

past : (c : After-loop-k) → length (meant c.args.book.now).arities ≤ c.loop-k.k
past c = omega (arith, relations-are _ _ c.args.book.now.accepted, c.relations-k-end.ensures)

few : (c : In-loop-k) → c.loop-k.k < 16
few c = omega (arith, (read-trailed _ _ c.args.book.now.accepted).kept.few, c.relations-k-end.ensures)

pub bounds-starts-k : goal.bounds-starts-k
bounds-starts-k c = few (goal.at.bounds-starts-k c).In-loop-k

pub offset_bounds-starts-k : goal.offset_bounds-starts-k
offset_bounds-starts-k c = record { fits = omega (arith, few (goal.at.offset_bounds-starts-k c).In-loop-k) }

pub returns-in_err-c : goal.returns-in_err-c
returns-in_err-c c =
    let p = err_from_is_err_and c.from_residual.result c.from_residual.ensures.1 in
    rw (p.1, p.2) (scan-stop _ _ _ _ _ (below (goal.at.returns-in_err-c c).In-loop-k) c.arity.ensures.0 c.in_err-c.ensures ∙ c.loop-k.invariant)

pub loop-k-preserved : goal.loop-k-preserved
loop-k-preserved c = scan-more _ _ _ _ _ (below (goal.at.loop-k-preserved c).In-loop-k) c.arity.ensures.0 c.in_ok-c.ensures ∙ c.loop-k.invariant

pub returns-then-c-model : goal.returns-then-c-model
returns-then-c-model c = scan-end _ _ _ _ _ (past (goal.at.returns-then-c-model c).After-loop-k) c.if-c-model.true ∙ c.loop-k.invariant

pub returns-else-c-model : goal.returns-else-c-model
returns-else-c-model c = c.refuse.ensures ∙ scan-over _ _ _ _ _ (past (goal.at.returns-else-c-model c).After-loop-k) c.if-c-model.false ∙ c.loop-k.invariant
