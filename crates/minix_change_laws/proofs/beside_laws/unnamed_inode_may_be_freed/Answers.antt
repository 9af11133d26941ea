use Rattle.minix_change_laws.proofs.Harmless.{clear_inode_law}
use Rattle.minix_change_laws.proofs.beside_laws.unnamed_inode_may_be_freed.Goals as goal

pub returns : goal.returns
returns c = clear_inode_law
