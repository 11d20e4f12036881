use Rattle.std.proofs.Common.{refl, ⊎_elim}
use Rattle.text.specs.Sort.{sort_of}
use Rattle.text.proofs.sort.Goals as goal

pub returns-in-Flag : goal.returns-in-Flag
unfolding sort_of
returns-in-Flag c = rw c.in-Flag.is refl

pub returns-in-Place : goal.returns-in-Place
unfolding sort_of
returns-in-Place c = ⊎_elim (λ h. rw h.2 refl) (λ h. rw h.2 refl) c.in-Place.is
