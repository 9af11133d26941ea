use Rattle.install_stage.proofs.Named.{names_law}
use Rattle.install_stage.proofs.made_laws.made_names_are_the_old_ones_with_it.Goals as goal

pub returns : goal.returns
returns c = names_law
