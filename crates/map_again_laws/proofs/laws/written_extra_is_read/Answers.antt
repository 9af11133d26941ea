use Rattle.map_again_laws.proofs.Texts.{extra_again}
use Rattle.map_again_laws.proofs.laws.written_extra_is_read.Goals as goal

pub returns : goal.returns
returns c = extra_again
