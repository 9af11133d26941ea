use Rattle.map_again_laws.proofs.Texts.{options_again}
use Rattle.map_again_laws.proofs.laws.written_options_are_read.Goals as goal

pub returns : goal.returns
returns c = options_again
