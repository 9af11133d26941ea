use Rattle.map_again_laws.proofs.SectionAgain.{slots_again_law}
use Rattle.map_again_laws.proofs.laws.written_slots_are_read.Goals as goal

pub returns : goal.returns
returns c = slots_again_law
