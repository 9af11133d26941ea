-- Which plain value of the model each value of this crate stands for.
use Rattle.std.specs.Prelude.{◌≤◌, ℕ, List, length, take}
use Rattle.disk_trait.specs.declared.disks.Disks.{Ghosts}
use Rattle.minix_layout.specs.declared.superblock.Super.{Super}
use Rattle.minix_zones.specs.declared.volume.Volume.{Volume}
use Rattle.minix_tree.specs.View.{IsStat, IsNode}
use Rattle.minix_names.specs.Ends as model
use Rattle.minix_names.specs.declared.walk.PathEnd.{PathEnd}
use Rattle.minix_names.specs.declared.walk.PathEnd.TheVariants as ends
use Rattle.minix_names.specs.declared.walk.TextEnd.{TextEnd}
use Rattle.minix_names.specs.declared.walk.TextEnd.TheVariants as texts

-- where a walk ends; the name that it misses is at the start of some bytes
abbrev pub end_view : List ℕ → PathEnd → model.PathEnd
end_view bytes (ends.At inode) = model.At inode
end_view bytes (ends.Misses directory length) = model.Misses directory (take length bytes)

-- the name isn't longer than these bytes
abbrev pub HasName : PathEnd → Type 0
HasName (ends.At inode) = Unit {0}
HasName (ends.Misses directory length) = length ≤ 1024

-- where the walk of a text ends
abbrev pub text_view : TextEnd → model.TextEnd
text_view (texts.Ends stat) = model.Ends stat.inode
text_view (texts.Meets directory link rest) = model.Meets directory.inode link.inode rest.now
text_view (texts.Lacks directory name) = model.Lacks directory.inode name.now

-- its inodes are some that a volume with this superblock can have, and its texts aren't too long
abbrev pub IsTextEnd : Super → TextEnd → Type 0
IsTextEnd layout (texts.Ends stat) = IsStat layout stat
IsTextEnd layout (texts.Meets directory link rest) = IsStat layout directory × IsStat layout link × (length rest.now ≤ 1024)
IsTextEnd layout (texts.Lacks directory name) = length name.now ≤ 1024

-- they are those at their numbers now
abbrev pub IsTextEndNow : {D : Type 0} {disks : Ghosts D} → Volume D disks → TextEnd → Type 0
IsTextEndNow volume (texts.Ends stat) = IsNode volume stat
IsTextEndNow volume (texts.Meets directory link rest) = IsNode volume directory × IsNode volume link
IsTextEndNow volume (texts.Lacks directory name) = IsNode volume directory
