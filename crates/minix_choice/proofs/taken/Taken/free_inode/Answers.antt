-- The lowest free inode.
use Rattle.minix_zones.specs.Volume.{volume_view, past_of}
use Rattle.minix_choice.proofs.ChooseLemmas.{inode_told}
use Rattle.minix_choice.proofs.taken.Taken.free_inode.Goals as goal

pub returns-clause-inode : goal.returns-clause-inode
returns-clause-inode g c =
    rw (← c.self.view_is) (inode_told c.find_inode.result (past_of c.args.volume.now) (volume_view c.args.volume.now) c.self.inside.inodes.numbers c.find_inode.ensures.inode)
