use Rattle.minix_choice_laws.proofs.Choose.{file_law}
use Rattle.minix_choice_laws.proofs.choice_laws.choice_may_be_a_file.Goals as goal

pub returns : goal.returns
returns c = file_law
