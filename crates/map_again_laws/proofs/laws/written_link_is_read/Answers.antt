use Rattle.map_again_laws.proofs.SectionAgain.{link_again_law}
use Rattle.map_again_laws.proofs.laws.written_link_is_read.Goals as goal

pub returns : goal.returns
returns c = link_again_law
