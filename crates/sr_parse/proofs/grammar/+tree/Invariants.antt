use Rattle.sr_parse.proofs.grammar.+tree.Given as goal

abbrev pub decreases-tree : goal.decreases-tree
decreases-tree l = l.depth
