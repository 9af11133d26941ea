use Rattle.map_section.proofs.RunLemmas.{section_law}
use Rattle.map_section.proofs.laws.reads_the_section.Goals as goal

pub returns : goal.returns
returns c = section_law
