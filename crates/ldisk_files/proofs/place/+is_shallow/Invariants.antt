use Rattle.ldisk_files.proofs.place.+is_shallow.Given as goal

abbrev pub decreases-is_shallow : goal.decreases-is_shallow
decreases-is_shallow g l = l.most
