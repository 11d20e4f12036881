use Rattle.cursor.specs.Sound.{node-known, compare-known, remains-known}
use Rattle.term.proofs.Draws.{draws, drawn-two}
use Rattle.term.proofs.Rule.+tree_two.Goals as goal

pub tree-returns-then-depth-eq0 : goal.tree-returns-then-depth-eq0
tree-returns-then-depth-eq0 t c = search draws depth 8

pub tree-compare-requires : goal.tree-compare-requires
tree-compare-requires t c = search (node-known, compare-known)

pub tree-remains-requires : goal.tree-remains-requires
tree-remains-requires t c = search (node-known, remains-known)

pub tree-returns-in_default : goal.tree-returns-in_default
tree-returns-in_default t c = search draws depth 8

pub tree-returns-in-True : goal.tree-returns-in-True
tree-returns-in-True t c = search draws depth 8

pub tree-returns-in-Compare : goal.tree-returns-in-Compare
tree-returns-in-Compare t c = search draws depth 8

pub tree-returns-in-Remainder : goal.tree-returns-in-Remainder
tree-returns-in-Remainder t c = search draws depth 8

pub tree-returns-in-Not : goal.tree-returns-in-Not
tree-returns-in-Not t c = search draws depth 8

pub tree-returns-in-And : goal.tree-returns-in-And
tree-returns-in-And t c = search draws depth 8

pub tree-returns-in-Or : goal.tree-returns-in-Or
tree-returns-in-Or t c = search draws depth 8

pub two-returns : goal.two-returns
two-returns t c = search drawn-two depth 4
