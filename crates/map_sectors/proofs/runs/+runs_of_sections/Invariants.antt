use Rattle.std.proofs.Common.{length}
use Rattle.map_sectors.proofs.runs.+runs_of_sections.Given as goal

-- there is one section less
abbrev pub decreases-runs_of_sections : goal.decreases-runs_of_sections
decreases-runs_of_sections l = length l.sections.now
