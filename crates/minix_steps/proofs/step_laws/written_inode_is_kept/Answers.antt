use Rattle.minix_steps.proofs.PartLemmas.{kept_inode_law}
use Rattle.minix_steps.proofs.step_laws.written_inode_is_kept.Goals as goal

pub returns : goal.returns
returns c = kept_inode_law
