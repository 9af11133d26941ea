use Rattle.std.proofs.Common.{length}
use Rattle.map_sectors.proofs.map.MapPlan.+write_sections.Given as goal

-- there is one section less
abbrev pub decreases-write_sections : goal.decreases-write_sections
decreases-write_sections l = length l.sections.now
