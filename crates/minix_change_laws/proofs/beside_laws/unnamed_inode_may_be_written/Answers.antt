use Rattle.minix_change_laws.proofs.Harmless.{unnamed_inode_law}
use Rattle.minix_change_laws.proofs.beside_laws.unnamed_inode_may_be_written.Goals as goal

pub returns : goal.returns
returns c = unnamed_inode_law
