-- A directory that may get new zones by a number in its inode (a rule of this project's own).
use Rattle.std.specs.Prelude.{◌≡◌, ◌+◌, ℕ, true, List, slice_index}
use Rattle.disk_trait.specs.declared.disks.Disks.{Ghosts}
use Rattle.disk_trait.specs.NotWritten.{IsOther, NotWritten}
use Rattle.lilo_model.specs.MinixLayout.{Kind, Inode, inode_place, numbers_in_zone}
use Rattle.lilo_model.specs.MinixParts.{is_directory}
use Rattle.lilo_model.specs.MinixWalk.{branch_of}
use Rattle.minix_change_laws.specs.Changes.{MaySize, with_top}
use Rattle.minix_layout.specs.View.{kind_view, super_view}
use Rattle.minix_steps.specs.Written.{parts_now}
use Rattle.minix_turns.specs.Inode.{IsNamedNow}
use Rattle.minix_zones.specs.Volume.{past_of}
use Rattle.minix_zones.specs.declared.volume.Volume.{Volume}
use Rattle.minix_grow.specs.Way.{depth_of, number_above}
use Rattle.minix_grow.specs.Zones.{IsOffZones}

-- the inode that is given is a directory's that has a name, its way to a block begins with a hole, and it may have a size
pub record MayHookTopNow {D : Type 0} {disks : Ghosts D} (volume : Volume D disks) (directory : ℕ) (node : Inode) (block size : ℕ) : Type 0 where
  pub lies : IsNamedNow volume directory node
  pub is : is_directory ((parts_now volume).node directory) ≡ true
  pub hole : number_above (super_view volume.layout) (parts_now volume) directory block (depth_of (kind_view volume.layout.kind) block) ≡ 0
  pub sized : MaySize (super_view volume.layout) (parts_now volume) directory size

-- the inode with the number of the highest new zone on the way to a block, and a size
abbrev pub hooked : Kind → Inode → ℕ → List ℕ → ℕ → Inode
hooked kind node block growth size = with_top node (branch_of (numbers_in_zone kind) block).top (slice_index growth (depth_of kind block)) size

-- a sector of a disk isn't the one with an inode
abbrev pub IsOffInode : {D : Type 0} {disks : Ghosts D} → Volume D disks → ℕ → ℕ → ℕ → Type 0
IsOffInode volume number d s = IsOther volume.span.disk (volume.span.start + (inode_place (super_view volume.layout) number).sector) d s

-- a call wrote nothing but some zones, the sectors with their bits, and the sector with an inode
abbrev pub WritesGrowthAlone : {D : Type 0} {disks : Ghosts D} → Volume D disks → Volume D disks → ℕ → List ℕ → Type 0
WritesGrowthAlone old new directory growth =
    (d s : ℕ) → IsOffZones old growth d s → IsOffInode old directory d s → NotWritten (past_of old) (past_of new) d s

-- a call wrote nothing but the sector with an inode
abbrev pub WritesInodeAlone : {D : Type 0} {disks : Ghosts D} → Volume D disks → Volume D disks → ℕ → Type 0
WritesInodeAlone old new directory = (d s : ℕ) → IsOffInode old directory d s → NotWritten (past_of old) (past_of new) d s
