-- A directory grows so that the place of what is chosen lies below its size (a rule of this project's own).
use Rattle.std.specs.Prelude.{◌≡◌, ◌≢◌, ◌≤◌, ◌<◌, ◌/◌, ℕ, true, List, length, slice_index, Result, OnOk, IfErr}
use Rattle.disk_trait.specs.declared.disks.Disks.{Ghosts}
use Rattle.disk_trait.specs.Moments.{IsTold, now}
use Rattle.disk_trait.specs.NotWritten.{NotWritten}
use Rattle.disk_trait.specs.Past.{Image}
use Rattle.lilo_model.specs.Faults.{Rose}
use Rattle.lilo_model.specs.MinixEntries.{entries_per_block, places}
use Rattle.lilo_model.specs.MinixLayout.{Inode, reach}
use Rattle.lilo_model.specs.MinixNames.{entry, Named, Refers, IsSound}
use Rattle.lilo_model.specs.MinixParts as model
use Rattle.lilo_model.specs.MinixParts.{Parts, Pointer, is_directory, blocks_for, parts_of}
use Rattle.minix_choice_laws.specs.Choice.{LiesThere}
use Rattle.minix_grow.specs.Others.{KeepsOthersNow}
use Rattle.minix_grow.specs.Places.{IsFreePlaceNow}
use Rattle.minix_grow.specs.Way.{depth_of, number_above}
use Rattle.minix_grow.specs.Zones.{AreData, IsOffZones}
use Rattle.minix_layout.specs.View.{kind_view}
use Rattle.minix_layout.specs.declared.inode.Inode as inodes
use Rattle.minix_layout.specs.declared.superblock.Super as layouts
use Rattle.minix_steps.specs.Written.{parts_now}
use Rattle.minix_turns.specs.Joined.{Unseen}
use Rattle.minix_choice.specs.declared.write_fault.WriteFault.{WriteFault}
use Rattle.minix_choice.specs.declared.write_fault.WriteFault.TheVariants.{Device}
use Rattle.minix_zones.specs.Volume.{volume_view, past_of, faults_of}
use Rattle.minix_zones.specs.declared.volume.Volume.{Volume}
use Rattle.write_model.specs.Places.{most_places}
use Rattle.minix_create.specs.Brought.{IsOffDirectory}
use Rattle.minix_create.specs.declared.chosen.Chosen.{Chosen}

-- ---- what growth asks

-- zones are data zones, each another one, as many as are missing on the way to a block of a directory; no named inode refers
-- to one that is missing
pub record HasGrowth (view : model.Volume) (parts : Parts) (directory block : ℕ) (growth : List ℕ) : Type 0 where
  pub from : (level : ℕ) → level < length growth → view.layout.first ≤ slice_index growth level
  pub below : (level : ℕ) → level < length growth → slice_index growth level < view.layout.zones
  pub apart : (level other : ℕ) → level < other → other < length growth → slice_index growth other ≢ slice_index growth level
  pub enough : (level : ℕ) → level ≤ depth_of view.layout.kind block → number_above view.layout parts directory block level ≡ 0 → level < length growth
  pub unused : (level : ℕ) → level < length growth → number_above view.layout parts directory block level ≡ 0
      → (number : ℕ) (at : Pointer) → Refers view.layout parts number at (slice_index growth level) → ⊥

-- In an image of a sound volume a directory has a name, and an inode can name its blocks. A place of it is free, or past its
-- size and one that it can have, and it may grow by some zones so that the place lies below its size.
pub record MayGrowIn (view : model.Volume) (image : Image) (directory place : ℕ) (growth : List ℕ) : Type 0 where
  pub sound : IsSound view image
  pub named : Named view.layout (parts_of view image) directory
  pub is : is_directory ((parts_of view image).node directory) ≡ true
  pub reaches : blocks_for ((parts_of view image).node directory).size ≤ reach view.layout.kind
  pub free : place < places view.layout.kind ((parts_of view image).node directory).size → (entry view.layout (parts_of view image) directory place).inode ≡ 0
  pub near : places view.layout.kind ((parts_of view image).node directory).size ≤ place → place < most_places view.layout.kind
  pub growth_is : HasGrowth view (parts_of view image) directory (place / entries_per_block view.layout.kind) growth

-- so it is of what is chosen, on a volume now
abbrev pub MayGrowNow : {D : Type 0} {disks : Ghosts D} → Volume D disks → Chosen → Type 0
MayGrowNow volume chosen = MayGrowIn (volume_view volume) (now (past_of volume)) chosen.directory chosen.choice.place chosen.choice.growth

-- all places before it lie below the size, and an inode is the directory's
pub record IsLastNow {D : Type 0} {disks : Ghosts D} (volume : Volume D disks) (chosen : Chosen) (node : Inode) : Type 0 where
  pub may : MayGrowNow volume chosen
  pub is : (parts_now volume).node chosen.directory ≡ node
  pub next : chosen.choice.place ≤ places (kind_view volume.layout.kind) node.size

-- a zone is among the first of some
abbrev pub IsAmong : List ℕ → ℕ → ℕ → Type 0
IsAmong zones count zone = (at : ℕ) × (at < count) × (slice_index zones at ≡ zone)

-- a directory can have the place, all before it lie below its size, and the zones are data zones, each another one
pub record HasRoom (layout : layouts.Super) (chosen : Chosen) (node : inodes.Inode) : Type 0 where
  pub low : chosen.choice.place < most_places (kind_view layout.kind)
  pub next : chosen.choice.place ≤ places (kind_view layout.kind) node.size
  pub data_is : AreData layout chosen.choice.growth

-- ---- what it writes

-- its place lies below the directory's size, and in a zone
abbrev pub LiesNow : {D : Type 0} {disks : Ghosts D} → Volume D disks → Chosen → Type 0
LiesNow volume chosen = LiesThere (volume_view volume) (now (past_of volume)) chosen.directory chosen.choice.place

-- so many places lie below the size
pub record MayGoTo {D : Type 0} {disks : Ghosts D} (volume : Volume D disks) (chosen : Chosen) (have : ℕ) : Type 0 where
  pub may : MayGrowNow volume chosen
  pub have_is : have ≡ places (kind_view volume.layout.kind) ((parts_now volume).node chosen.directory).size

-- a sector of a disk is none of the directory's, nor of the zones of growth and their bits
pub record IsOffGrowth {D : Type 0} {disks : Ghosts D} (volume : Volume D disks) (chosen : Chosen) (d s : ℕ) : Type 0 where
  pub directory : IsOffDirectory volume chosen.directory d s
  pub zones : IsOffZones volume chosen.choice.growth d s

-- ---- what it leaves

-- The place of what is chosen was brought below the directory's size. No name sees it at any moment, also where it was
-- refused. Once it is done the place is free and lies in a zone, and all other inodes stay. Nothing was written but what growth
-- needs, and it was refused where the disk failed alone.
pub record GrowsChosen {D : Type 0} {disks : Ghosts D} (old new : Volume D disks) (chosen : Chosen) (result : Result (Unit {0}) WriteFault) : Type 0 where
  pub unseen : Unseen old new
  pub free : IsTold (past_of old) → OnOk result (IsFreePlaceNow new chosen.directory chosen.choice.place)
  pub keeps : IsTold (past_of old) → OnOk result (KeepsOthersNow old new chosen.directory chosen.choice.growth)
  pub others : IsTold (past_of old) → (d s : ℕ) → IsOffGrowth old chosen d s → NotWritten (past_of old) (past_of new) d s
  pub device : IsTold (past_of old) → IfErr result (λ fault. (fault ≡ Device) × Rose (faults_of old) (faults_of new))
