use Rattle.std.proofs.Common.{◌+◌, ◌*◌}
use Rattle.term.proofs.Rule.+tree_two.Given as goal

abbrev pub decreases-tree : goal.decreases-tree
decreases-tree l = l.depth * 2

abbrev pub decreases-two : goal.decreases-two
decreases-two l = l.depth * 2 + 1
