use Rattle.minix_remove_laws.proofs.Released.{released_law}
use Rattle.minix_remove_laws.proofs.laws.removed_name_releases_its_inode.Goals as goal

pub returns : goal.returns
returns c = released_law
