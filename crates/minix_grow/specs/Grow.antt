-- A directory that may grow in any of its three ways, so that a place lies below its size (a rule of this project's own).
use Rattle.std.specs.Prelude.{◌≡◌, ◌≢◌, ◌⊎◌, ◌≤◌, ◌<◌, ◌+◌, ◌/◌, ℕ, true, List, length, slice_index, Result, OnOk}
use Rattle.disk_trait.specs.declared.disks.Disks.{Ghosts}
use Rattle.disk_trait.specs.Moments.{IsTold}
use Rattle.disk_trait.specs.NotWritten.{NotWritten}
use Rattle.disk_trait.specs.Range.{IsOutside}
use Rattle.lilo_model.specs.MinixEntries.{entries_per_block, places}
use Rattle.lilo_model.specs.MinixLayout.{Kind, Inode, zone_sector}
use Rattle.lilo_model.specs.MinixNames.{entry}
use Rattle.lilo_model.specs.MinixParts.{is_directory, inside}
use Rattle.minix_layout.specs.View.{kind_view, super_view}
use Rattle.minix_layout.specs.declared.superblock.Super.{Super}
use Rattle.minix_steps.specs.Steps.{IsUnusedZone}
use Rattle.minix_steps.specs.Written.{parts_now}
use Rattle.minix_turns.specs.Inode.{IsNamedNow}
use Rattle.minix_turns.specs.Joined.{Unseen}
use Rattle.minix_zones.specs.View.{Refuses, IsDataZone}
use Rattle.minix_zones.specs.Volume.{past_of, HasDeviceCause}
use Rattle.minix_zones.specs.declared.volume.Volume.{Volume}
use Rattle.minix_zones.specs.declared.zone_fault.ZoneFault.{ZoneFault}
use Rattle.minix_zones.specs.declared.zone_fault.ZoneFault.TheVariants.{Device}
use Rattle.minix_grow.specs.Below.{MayHookBelowNow, IsOffNumber}
use Rattle.minix_grow.specs.Hook.{MayHookTopNow, IsOffInode}
use Rattle.minix_grow.specs.Others.{KeepsOthersNow}
use Rattle.minix_grow.specs.Places.{size_to, IsFreePlaceNow, IsNextPlaceNow}
use Rattle.minix_grow.specs.Way.{depth_of, number_above, number_on_way, ReachesDown}
use Rattle.minix_grow.specs.Zones.{IsOffZones}

-- ---- the way that is there

-- a number on the way to a block was refused, or the disk failed
pub record IsRefusedOnWay {D : Type 0} {disks : Ghosts D} (volume : Volume D disks) (node : Inode) (block : ℕ) (fault : ZoneFault) : Type 0 where
  pub level : ℕ
  pub low : level ≤ depth_of (kind_view volume.layout.kind) block
  pub refused : Refuses fault (inside (super_view volume.layout) (number_on_way (super_view volume.layout) (parts_now volume) node block level))

-- the zone down to which the way to a block is there is one of the volume's; where all of it is missing there is none
pub record IsLowest (layout : Super) (block level zone : ℕ) : Type 0 where
  pub low : level ≤ depth_of (kind_view layout.kind) block + 1
  pub inside : level ≤ depth_of (kind_view layout.kind) block → IsDataZone layout zone
  pub none : depth_of (kind_view layout.kind) block < level → zone ≡ 0

abbrev pub ReachesDownNow : {D : Type 0} {disks : Ghosts D} → Volume D disks → Inode → ℕ → ℕ → ℕ → Type 0
ReachesDownNow volume node block level zone = ReachesDown (super_view volume.layout) (parts_now volume) node block level zone

-- ---- growth

-- the size of a directory once a place lies below it: its own, where the place lies below that, or up to the place
abbrev pub IsSizeOver : Kind → ℕ → ℕ → ℕ → Type 0
IsSizeOver kind size place over =
    ((size_to kind place ≤ size) × (over ≡ size)) ⊎ ((size < size_to kind place) × (over ≡ size_to kind place))

-- No named inode refers to one of some zones, but for those at whose level the way of an inode to a block is there: growth
-- that was made before isn't made again.
abbrev pub AreUnusedWhereMissing : {D : Type 0} {disks : Ghosts D} → Volume D disks → Inode → ℕ → List ℕ → Type 0
AreUnusedWhereMissing volume node block growth =
    (level : ℕ) → level < length growth
    → (IsTold (past_of volume) → number_on_way (super_view volume.layout) (parts_now volume) node block level ≡ 0)
    → IsUnusedZone volume (slice_index growth level)

-- The inode that is given is a directory's that has a name. A place, where it lies below the size, is free. The zones are
-- enough for what is missing on the way to its block, the lowest first.
pub record MayGrowNow {D : Type 0} {disks : Ghosts D} (volume : Volume D disks) (directory : ℕ) (node : Inode) (place : ℕ) (growth : List ℕ) : Type 0 where
  pub lies : IsNamedNow volume directory node
  pub is : is_directory ((parts_now volume).node directory) ≡ true
  pub free : place < places (kind_view volume.layout.kind) node.size → (entry (super_view volume.layout) (parts_now volume) directory place).inode ≡ 0
  pub enough : (level : ℕ) → level ≤ depth_of (kind_view volume.layout.kind) (place / entries_per_block (kind_view volume.layout.kind))
      → number_above (super_view volume.layout) (parts_now volume) directory (place / entries_per_block (kind_view volume.layout.kind)) level ≡ 0
      → level < length growth

-- the zone with a place's block is there, and the place is free below the size, or the first one past it
pub record MayReachNow {D : Type 0} {disks : Ghosts D} (volume : Volume D disks) (directory : ℕ) (node : Inode) (place zone : ℕ) : Type 0 where
  pub free : size_to (kind_view volume.layout.kind) place ≤ node.size → IsFreePlaceNow volume directory place
  pub next : node.size < size_to (kind_view volume.layout.kind) place → IsNextPlaceNow volume directory node place zone

-- so many new zones may be hooked: in an indirect zone, or where all of the way is missing in the inode
pub record MayGrowByNow {D : Type 0} {disks : Ghosts D} (volume : Volume D disks) (directory : ℕ) (node : Inode) (place count zone : ℕ) : Type 0 where
  pub in_zone : count ≤ depth_of (kind_view volume.layout.kind) (place / entries_per_block (kind_view volume.layout.kind))
      → MayHookBelowNow volume directory node (place / entries_per_block (kind_view volume.layout.kind)) count zone
  pub in_inode : depth_of (kind_view volume.layout.kind) (place / entries_per_block (kind_view volume.layout.kind)) < count
      → (over : ℕ) → IsSizeOver (kind_view volume.layout.kind) node.size place over
      → MayHookTopNow volume directory node (place / entries_per_block (kind_view volume.layout.kind)) over

-- ---- what isn't written

-- a sector of a disk is in no zone that is there on the way to a block of a directory
abbrev pub IsOffWay : {D : Type 0} {disks : Ghosts D} → Volume D disks → ℕ → ℕ → ℕ → ℕ → Type 0
IsOffWay volume directory block d s =
    (level : ℕ) → level ≤ depth_of (kind_view volume.layout.kind) block → number_above (super_view volume.layout) (parts_now volume) directory block level ≢ 0
    → IsOutside volume.span.disk (volume.span.start + zone_sector (number_above (super_view volume.layout) (parts_now volume) directory block level)) 2 d s

-- a call wrote nothing but zones of growth, the sectors with their bits, the zones of a directory on the way to a block, and
-- the sector with its inode
abbrev pub GrowsAlone : {D : Type 0} {disks : Ghosts D} → Volume D disks → Volume D disks → ℕ → ℕ → List ℕ → Type 0
GrowsAlone old new directory block growth =
    (d s : ℕ) → IsOffZones old growth d s → IsOffWay old directory block d s → IsOffInode old directory d s → NotWritten (past_of old) (past_of new) d s

-- a call wrote nothing but new zones, the sectors with their bits, the indirect zone in which the highest is hooked, and the
-- sector with the directory's inode
abbrev pub GrowsByAlone : {D : Type 0} {disks : Ghosts D} → Volume D disks → Volume D disks → ℕ → ℕ → List ℕ → ℕ → Type 0
GrowsByAlone old new directory block growth zone =
    (d s : ℕ) → IsOffZones old growth d s → (zone ≢ 0 → IsOffNumber old block (length growth) zone d s) → IsOffInode old directory d s
    → NotWritten (past_of old) (past_of new) d s

-- ---- what a growth leaves

-- A place of a directory was brought below its size. No name sees it at any moment, also where it was refused; once it is
-- done the place is free and lies in a zone of the directory, and all other inodes stay. It wrote nothing but what growth
-- needs, and was refused where the disk failed alone.
pub record GrowsTo {D : Type 0} {disks : Ghosts D} (old new : Volume D disks) (directory place : ℕ) (growth : List ℕ)
    (result : Result (Unit {0}) ZoneFault) : Type 0 where
  pub unseen : Unseen old new
  pub free : IsTold (past_of old) → OnOk result (IsFreePlaceNow new directory place)
  pub keeps : IsTold (past_of old) → OnOk result (KeepsOthersNow old new directory growth)
  pub others : IsTold (past_of old) → GrowsAlone old new directory (place / entries_per_block (kind_view old.layout.kind)) growth
  pub device : IsTold (past_of old) → HasDeviceCause old new Device result
