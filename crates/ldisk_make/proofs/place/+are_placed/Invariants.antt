use Rattle.std.proofs.Common.{length}
use Rattle.ldisk_make.proofs.place.+are_placed.Given as goal

abbrev pub decreases-are_placed : goal.decreases-are_placed
decreases-are_placed l = length l.parts.now
