use Rattle.minix_names.proofs.walk.+walk_through.Given as goal

abbrev pub decreases-walk_through : goal.decreases-walk_through
decreases-walk_through g l = l.links
