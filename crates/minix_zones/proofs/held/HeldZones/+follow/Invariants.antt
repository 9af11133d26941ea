use Rattle.minix_zones.proofs.held.HeldZones.+follow.Given as goal

abbrev pub decreases-follow : goal.decreases-follow
decreases-follow g l = l.depth
