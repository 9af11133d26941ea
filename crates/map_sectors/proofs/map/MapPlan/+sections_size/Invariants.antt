use Rattle.std.proofs.Common.{length}
use Rattle.map_sectors.proofs.map.MapPlan.+sections_size.Given as goal

-- there is one section less
abbrev pub decreases-sections_size : goal.decreases-sections_size
decreases-sections_size l = length l.sections.now
