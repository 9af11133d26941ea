use Rattle.minix_change_laws.proofs.Tree.{tree_named_law}
use Rattle.minix_change_laws.proofs.tree_laws.named_inode_had_a_name.Goals as goal

pub returns : goal.returns
returns c = tree_named_law
