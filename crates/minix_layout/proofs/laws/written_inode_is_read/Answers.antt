use Rattle.minix_layout.proofs.Reading.{inode_law}
use Rattle.minix_layout.proofs.laws.written_inode_is_read.Goals as goal

pub returns : goal.returns
returns c = inode_law
