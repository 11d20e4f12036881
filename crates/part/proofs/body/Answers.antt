use Rattle.std.proofs.Common.{⊎_elim}
use Rattle.part.proofs.Laws.{body-none, body-some}
use Rattle.part.proofs.body.Goals as goal

pub atom-requires : goal.atom-requires
atom-requires c = ⊎_elim (λ e. absurd (c.if-r-ne255.true e)) (λ h. h) c.requires

pub returns-then-r-ne255 : goal.returns-then-r-ne255
returns-then-r-ne255 c = body-some _ _ _ _ c.if-r-ne255.true c.atom.ensures

pub returns-else-r-ne255 : goal.returns-else-r-ne255
returns-else-r-ne255 c = body-none _ _ _ _ c.if-r-ne255.false
