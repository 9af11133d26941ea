use Rattle.minix_tree.proofs.find.+find_through.Given as goal

abbrev pub decreases-find_through : goal.decreases-find_through
decreases-find_through g l = l.links
