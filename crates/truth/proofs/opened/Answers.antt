use Rattle.std.proofs.Common.{arith}
use Rattle.std.proofs.lemmas.Bool.{not-true, not-false}
use Rattle.truth.proofs.Sides.{looking, looks-first, looks-next, looks-found, looks-none}
use Rattle.truth.proofs.opened.Goals.{then-sides-lt4-via-then-sides-lt4, then-sides-lt4-via-else-sides-lt4+then-t-sides}
use Rattle.truth.proofs.opened.Goals as goal

pub returns-then-sides-lt4 : goal.returns-then-sides-lt4
returns-then-sides-lt4 c = elim c.then-sides-lt4.branch [
  | then-sides-lt4-via-then-sides-lt4 w ↦ looks-none _ _ _ _ (looks-first _ _) (omega arith)
  | then-sides-lt4-via-else-sides-lt4+then-t-sides w ↦ looks-found _ _ _ _ (looks-first _ _) w.if-sides-lt4.false w.if-t-sides.true
]

pub loop-rest-init : goal.loop-rest-init
loop-rest-init c = looks-next _ _ _ _ (looks-first _ _) c.if-sides-lt4.false c.if-t-sides.false

pub loop-rest-preserved : goal.loop-rest-preserved
loop-rest-preserved c = looks-next _ _ _ _ c.loop-rest.invariant c.loop-rest-test.true (not-true _ c.if-t-rest.true)

pub returns-else-t-rest : goal.returns-else-t-rest
returns-else-t-rest c = looks-found _ _ _ _ c.loop-rest.invariant c.loop-rest-test.true (not-false _ c.if-t-rest.false)

pub returns-after-loop-rest : goal.returns-after-loop-rest
returns-after-loop-rest c = search looking
