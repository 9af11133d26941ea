-- The law.
use Rattle.minix_tree.proofs.DirectoryLemmas.{directory_law}
use Rattle.minix_tree.proofs.laws.directory_is_its_blocks.Goals as goal

pub returns : goal.returns
returns c = directory_law
