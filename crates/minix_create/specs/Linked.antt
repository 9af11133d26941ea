-- A name that is made for a new file.
use Rattle.std.specs.Prelude.{◌≡◌, ◌≢◌, ◌<◌, ◌==◌, ◌||◌, ◌+◌, ◌⊎◌, ℕ, true, List, ◌∷◌, Some, None, slice_index, Result, OnOk, IfErr}
use Rattle.disk_trait.specs.declared.disks.Disks.{Ghosts}
use Rattle.disk_trait.specs.Past.{Image}
use Rattle.disk_trait.specs.Moments.{IsTold, now, LeavesOnly}
use Rattle.disk_trait.specs.NotWritten.{NotWritten}
use Rattle.disk_trait.specs.Range.{IsOutside}
use Rattle.lilo_model.specs.Faults.{Rose}
use Rattle.lilo_model.specs.MinixLayout.{Super, reach, zone_sector}
use Rattle.lilo_model.specs.MinixNames.{reached, PointsTo}
use Rattle.lilo_model.specs.MinixParts as model
use Rattle.lilo_model.specs.MinixParts.{Parts, is_directory, has_zones, block_pointer}
use Rattle.minix_change_laws.specs.Beside.{IsInode, IsDataZone}
use Rattle.minix_steps.specs.Numbers.{has_number}
use Rattle.minix_change_laws.specs.Only.{zone_of_entry}
use Rattle.minix_grow.specs.Hook.{IsOffInode}
use Rattle.minix_grow.specs.Others.{IsNoneOf, IsZoneOf, KeepsNodes}
use Rattle.minix_layout.specs.View.{kind_view, super_view}
use Rattle.minix_create.specs.Made.{HasMade}
use Rattle.minix_steps.specs.Written.{parts_now}
use Rattle.minix_turns.specs.Joined.{LeadsPath}
use Rattle.minix_choice.specs.declared.write_fault.WriteFault.{WriteFault}
use Rattle.minix_choice.specs.declared.write_fault.WriteFault.TheVariants.{Device}
use Rattle.minix_zones.specs.Volume.{volume_view, past_of, faults_of}
use Rattle.minix_zones.specs.declared.volume.Volume.{Volume}
use Rattle.minix_create.specs.Chosen.{MayLinkNow, MayNest, IsNewInode, new_inode, thing_with}
use Rattle.minix_create.specs.Created.{IsOffFile, IsFilled}
use Rattle.minix_create.specs.Entered.{links_above}
use Rattle.minix_create.specs.Grown.{LiesNow, IsOffGrowth}
use Rattle.minix_create.specs.declared.chosen.Chosen.{Chosen}

-- a sector is none that a new file needs, nor of the zone with its name where that is there, nor the one with the directory's
-- inode where it is a directory itself, nor of the directory or its growth where its place isn't below the size and in a zone
pub record IsOffName {D : Type 0} {disks : Ghosts D} (volume : Volume D disks) (chosen : Chosen) (d s : ℕ) : Type 0 where
  pub file : IsOffFile volume chosen d s
  pub name : zone_of_entry (super_view volume.layout) (parts_now volume) chosen.directory chosen.choice.place ≢ 0
      → IsOutside volume.span.disk (volume.span.start + zone_sector
      (zone_of_entry (super_view volume.layout) (parts_now volume) chosen.directory chosen.choice.place)) 2 d s
  pub above : is_directory (new_inode chosen) ≡ true → IsOffInode volume chosen.directory d s
  pub growth : (LiesNow volume chosen → ⊥) → IsOffGrowth volume chosen d s

-- in an image of a volume a new name isn't there, or the links of the directory above are those once it is made
abbrev pub IsRaisedBefore : {D : Type 0} {disks : Ghosts D} → Volume D disks → List (List ℕ) → Chosen → Image → Type 0
IsRaisedBefore volume outer chosen c =
    (reached (super_view volume.layout) (model.parts_of (volume_view volume) c) (chosen.name ∷ outer) ≡ None)
    ⊎ (((model.parts_of (volume_view volume) c).node chosen.directory).links
    ≡ links_above (kind_view volume.layout.kind) chosen ((parts_now volume).node chosen.directory).links)

-- Its bit is set and those of the zones that were chosen, and no other but for zones of growth: none of these is cleared, and one
-- that was set is of a zone that the directory has now.
pub record MarksLinked (super : Super) (old new : Parts) (chosen : Chosen) : Type 0 where
  pub inodes : (number : ℕ) → IsInode super number → new.has_inode number ≡ (old.has_inode number || (number == chosen.choice.inode))
  pub zones : (zone : ℕ) → IsDataZone super zone → IsNoneOf chosen.choice.growth zone
      → new.has_zone zone ≡ (old.has_zone zone || has_number chosen.choice.zones zone)
  pub stay_marked : (zone : ℕ) → IsDataZone super zone → old.has_zone zone ≡ true → new.has_zone zone ≡ true
  pub used : (zone : ℕ) → IsDataZone super zone → new.has_zone zone ≡ true
      → ((old.has_zone zone || has_number chosen.choice.zones zone) ≡ true) ⊎ IsZoneOf super new chosen.directory zone

-- each of its blocks that isn't a hole lies in the zone that was chosen for it
abbrev pub LiesAsChosen : Super → Parts → Chosen → Type 0
LiesAsChosen super parts chosen =
    has_zones (new_inode chosen) ≡ true → (index : ℕ) → index < reach super.kind → slice_index chosen.choice.blocks index ≢ 0
    → PointsTo super parts chosen.choice.inode (block_pointer super.kind index) (slice_index chosen.choice.blocks index)

-- and has the bytes that were given, those past the file's size too
abbrev pub HoldsGiven : Super → Parts → Chosen → (ℕ → List ℕ) → Type 0
HoldsGiven super parts chosen given =
    has_zones (new_inode chosen) ≡ true → (index : ℕ) → index < reach super.kind → slice_index chosen.choice.blocks index ≢ 0
    → parts.zone (slice_index chosen.choice.blocks index) ≡ given index

-- Since a volume was as it is here, a file was reserved, filled and linked. Whatever a stop left, at any moment, is seen as
-- before or has the name, which leads to the whole of the file; where the name is there, the directory above a new one has a
-- link more, if it can have, and once it is done both are there, the inode has the new mode, owner, links, times and size, each block
-- lies whole where it was chosen, all other places of directories are kept, each other inode is as before but for the links, the size
-- and the zones of the directory, and no bitmap bit is set but those that were chosen and of zones that the directory got. No other
-- sector was written, and it was refused where the disk failed alone.
pub record Creates {D : Type 0} {disks : Ghosts D} (start volume : Volume D disks) (outer : List (List ℕ)) (chosen : Chosen) (given : ℕ → List ℕ)
    (result : Result (Unit {0}) WriteFault) : Type 0 where
  pub leads : LeadsPath start volume (chosen.name ∷ outer) (Some chosen.choice.inode) (Some (thing_with chosen given)) result
  pub before : LeavesOnly (past_of start) (past_of volume) (IsRaisedBefore start outer chosen)
  pub above : IsTold (past_of start) → OnOk result (((model.parts_of (volume_view start) (now (past_of volume))).node chosen.directory).links
      ≡ links_above (kind_view start.layout.kind) chosen ((parts_now start).node chosen.directory).links)
  pub marks : IsTold (past_of start) → OnOk result (MarksLinked (super_view start.layout) (parts_now start)
      (model.parts_of (volume_view start) (now (past_of volume))) chosen)
  pub made : IsTold (past_of start) → OnOk result (HasMade (super_view start.layout) (parts_now start)
      (model.parts_of (volume_view start) (now (past_of volume))) chosen.directory chosen.choice)
  pub nodes : IsTold (past_of start) → OnOk result (KeepsNodes (super_view start.layout) (parts_now start)
      (model.parts_of (volume_view start) (now (past_of volume))) chosen.directory chosen.choice.inode)
  pub node : IsTold (past_of start) → OnOk result (IsNewInode chosen ((model.parts_of (volume_view start) (now (past_of volume))).node chosen.choice.inode))
  pub lies : IsTold (past_of start) → OnOk result (LiesAsChosen (super_view start.layout) (model.parts_of (volume_view start) (now (past_of volume))) chosen)
  pub holds : IsTold (past_of start) → OnOk result (HoldsGiven (super_view start.layout)
      (model.parts_of (volume_view start) (now (past_of volume))) chosen given)
  pub others : IsTold (past_of start) → (d s : ℕ) → IsOffName start chosen d s → NotWritten (past_of start) (past_of volume) d s
  pub device : IsTold (past_of start) → IfErr result (λ fault. (fault ≡ Device) × Rose (faults_of start) (faults_of volume))

-- so it was where the file was filled, and its name may be made in the directory that a path leads to
abbrev pub LinksFilled : {D : Type 0} {disks : Ghosts D} → Volume D disks → Volume D disks → Chosen → Result (Unit {0}) WriteFault → Type 0
LinksFilled {D} {disks} old new chosen result =
    (start : Volume D disks) (outer : List (List ℕ)) (given : ℕ → List ℕ) → IsFilled start old chosen given
    → MayNest outer chosen → (IsTold (past_of start) → MayLinkNow start outer chosen) → Creates start new outer chosen given result
