use Rattle.run_sections.proofs.SectorLemmas.{file_sector_law}
use Rattle.run_sections.proofs.laws.section_sectors_are_the_plans.Goals as goal

pub returns : goal.returns
returns c = file_sector_law
