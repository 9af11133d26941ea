use Rattle.std.proofs.Common.{length}
use Rattle.map_sectors.proofs.map.MapPlan.+add_sections.Given as goal

-- there is one section less
abbrev pub decreases-add_sections : goal.decreases-add_sections
decreases-add_sections l = length l.sections.now
