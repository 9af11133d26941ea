use Rattle.minix_steps.proofs.MarkLaws.{one_inode_mark}
use Rattle.minix_steps.proofs.bit_laws.inode_mark_is_one_bit.Goals as goal

pub returns : goal.returns
returns c volume image inode value is there long = one_inode_mark volume image inode value is there long
