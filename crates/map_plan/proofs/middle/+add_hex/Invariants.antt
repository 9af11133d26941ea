use Rattle.map_plan.proofs.middle.+add_hex.Given as goal

-- the number falls
abbrev pub decreases-add_hex : goal.decreases-add_hex
decreases-add_hex l = l.number
