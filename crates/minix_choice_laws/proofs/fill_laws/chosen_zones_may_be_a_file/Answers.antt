use Rattle.minix_choice_laws.proofs.Chosen.{chosen_law}
use Rattle.minix_choice_laws.proofs.fill_laws.chosen_zones_may_be_a_file.Goals as goal

pub returns : goal.returns
returns c = chosen_law
