use Rattle.boot_laws.proofs.Steps.{few_sectors_law}
use Rattle.boot_laws.proofs.laws.section_lists_no_more.Goals as goal

pub returns : goal.returns
returns c = few_sectors_law
