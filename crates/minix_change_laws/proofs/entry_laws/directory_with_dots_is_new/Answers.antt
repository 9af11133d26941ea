use Rattle.minix_change_laws.proofs.Dots.{new_directory_law}
use Rattle.minix_change_laws.proofs.entry_laws.directory_with_dots_is_new.Goals as goal

pub returns : goal.returns
returns c = new_directory_law
