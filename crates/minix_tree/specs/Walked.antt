-- Where a walk ends.
use Rattle.std.specs.Prelude.{◌≤◌, length}
use Rattle.disk_trait.specs.declared.disks.Disks.{Ghosts}
use Rattle.lilo_model.specs.MinixFind as model
use Rattle.minix_layout.specs.declared.superblock.Super.{Super}
use Rattle.minix_zones.specs.declared.volume.Volume.{Volume}
use Rattle.minix_tree.specs.View.{IsStat, IsNode}
use Rattle.minix_tree.specs.declared.walk.Walked.{Walked}
use Rattle.minix_tree.specs.declared.walk.Walked.TheVariants.{Ends, Meets}

-- where a walk ends, by numbers
abbrev pub walked_view : Walked → model.Walked
walked_view (Ends stat) = model.Ends stat.inode
walked_view (Meets directory link rest) = model.Meets directory.inode link.inode rest.now

-- its inodes are some that a volume with this superblock can have, and the text after a link isn't too long
abbrev pub IsWalked : Super → Walked → Type 0
IsWalked layout (Ends stat) = IsStat layout stat
IsWalked layout (Meets directory link rest) = IsStat layout directory × IsStat layout link × (length rest.now ≤ 1024)

-- they are those at their numbers now
abbrev pub IsWalkedNow : {D : Type 0} {disks : Ghosts D} → Volume D disks → Walked → Type 0
IsWalkedNow volume (Ends stat) = IsNode volume stat
IsWalkedNow volume (Meets directory link rest) = IsNode volume directory × IsNode volume link
