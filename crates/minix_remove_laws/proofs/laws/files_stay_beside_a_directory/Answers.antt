use Rattle.minix_remove_laws.proofs.Files.{kept_files_law}
use Rattle.minix_remove_laws.proofs.laws.files_stay_beside_a_directory.Goals as goal

pub returns : goal.returns
returns c = kept_files_law
