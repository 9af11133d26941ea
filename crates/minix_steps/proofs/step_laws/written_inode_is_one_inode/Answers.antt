use Rattle.minix_steps.proofs.PartLemmas.{inode_bytes_law}
use Rattle.minix_steps.proofs.step_laws.written_inode_is_one_inode.Goals as goal

pub returns : goal.returns
returns c = inode_bytes_law
