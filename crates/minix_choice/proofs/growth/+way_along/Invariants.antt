use Rattle.minix_choice.proofs.growth.+way_along.Given as goal

abbrev pub decreases-way_along : goal.decreases-way_along
decreases-way_along g l = l.depth
