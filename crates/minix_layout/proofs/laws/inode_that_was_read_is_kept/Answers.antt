use Rattle.minix_layout.proofs.Reading.{kept_law}
use Rattle.minix_layout.proofs.laws.inode_that_was_read_is_kept.Goals as goal

pub returns : goal.returns
returns c = kept_law
