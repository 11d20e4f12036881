use Rattle.part.proofs.Laws.{but_same, but-other}
use Rattle.part.proofs.frame_but.Goals as goal

pub returns-then-r-h : goal.returns-then-r-h
returns-then-r-h c = but-other _ _ _ c.if-r-h.true c.frame.ensures

pub returns-else-r-h : goal.returns-else-r-h
returns-else-r-h c = but_same _ _ _ c.if-r-h.false
