use Rattle.std.proofs.Common.{arith, length-set, sym, ◌∙◌}
use Rattle.lists.specs.Places.{start_first, start-next}
use Rattle.steps.proofs.Places.{here-at}
use Rattle.back.proofs.Laws.{fill_more}
use Rattle.back.proofs.Trace.fill.Goals as goal

pub loop-n-init : goal.loop-n-init
loop-n-init c = (omega arith, c.told-block, sym (start_first _ _ _ _), λ k q. absurd (let z : ⊥ = omega arith in z))

pub after-i-requires : goal.after-i-requires
after-i-requires c = here-at _ _ _ _ c.requires c.loop-n.n c.loop-n.i c.loop-n.invariant.2 c.if-self-i.false

pub loop-n-preserved : goal.loop-n-preserved
loop-n-preserved c =
    let w = c.loop-n.invariant in (
      omega (arith, c.loop-n-test.true),
      rw length-set w.1,
      c.after-i.ensures ∙ rw w.2 (sym (start-next _ _ _ _ c.loop-n.n)),
      fill_more _ _ _ c.args.from c.loop-n.block c.loop-n.n c.loop-n.i (omega (arith, c.loop-n-test.true, w.1)) w.2 c.if-self-i.false w.3,
    )
