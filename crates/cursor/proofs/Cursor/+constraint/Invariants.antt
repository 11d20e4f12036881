use Rattle.cursor.proofs.Cursor.+constraint.Given as goal

abbrev pub decreases-constraint : goal.decreases-constraint
decreases-constraint l = l.depth
