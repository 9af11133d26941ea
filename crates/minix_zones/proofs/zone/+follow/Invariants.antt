use Rattle.minix_zones.proofs.zone.+follow.Given as goal

abbrev pub decreases-follow : goal.decreases-follow
decreases-follow g l = l.depth
