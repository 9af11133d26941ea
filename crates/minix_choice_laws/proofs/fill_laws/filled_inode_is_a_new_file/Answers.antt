use Rattle.minix_choice_laws.proofs.Filled.{filled_law}
use Rattle.minix_choice_laws.proofs.fill_laws.filled_inode_is_a_new_file.Goals as goal

pub returns : goal.returns
returns c = filled_law
