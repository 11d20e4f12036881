use Rattle.std.proofs.Common.{rules}
use Rattle.reply.specs.Then.{go_on}
use Rattle.cursor.specs.Walk.{follow}
use Rattle.cursor.proofs.Laws.{no-level, level}
use Rattle.cursor.proofs.Cursor.+constraint.Goals as goal

pub returns-in_err-byte : goal.returns-in_err-byte
unfolding follow go_on
returns-in_err-byte t c = rw (no-level _ _ _ _ c.if-depth-eq0.true) (search rules)

pub returns-then-depth-eq0 : goal.returns-then-depth-eq0
unfolding follow go_on
returns-then-depth-eq0 t c = rw (no-level _ _ _ _ c.if-depth-eq0.true) (search rules)

pub returns-in_err-n : goal.returns-in_err-n
unfolding follow go_on
returns-in_err-n t c = rw (level _ _ _ _ c.if-depth-eq0.false) (search rules)

pub returns-in_err-c-in-And : goal.returns-in_err-c-in-And
unfolding follow go_on
returns-in_err-c-in-And t c = rw (level _ _ _ _ c.if-depth-eq0.false) (search rules)

pub returns-in-True : goal.returns-in-True
unfolding follow go_on
returns-in-True t c = rw (level _ _ _ _ c.if-depth-eq0.false) (search rules)

pub returns-in-Not : goal.returns-in-Not
unfolding follow go_on
returns-in-Not t c = rw (level _ _ _ _ c.if-depth-eq0.false) (search rules)

pub returns-in_ok-c-in-And : goal.returns-in_ok-c-in-And
unfolding follow go_on
returns-in_ok-c-in-And t c = rw (level _ _ _ _ c.if-depth-eq0.false) (search rules)
