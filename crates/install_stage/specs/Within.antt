-- What a regular file that is made writes, in terms of what a writer of files may (a rule of this project's own).
use Rattle.std.specs.Prelude.{◌≡◌, ℕ, Bool, true, false, ◌==◌, ◌||◌, List, Option, Result}
use Rattle.disk_trait.specs.declared.disks.Disks.{Ghosts}
use Rattle.disk_trait.specs.Moments.{IsTold, now, IsQuiet}
use Rattle.disk_trait.specs.NotWritten.{NotWritten}
use Rattle.disk_trait.specs.Past.{Past}
use Rattle.install_stage_laws.specs.BeginLaws.{GainsNothing}
use Rattle.install_laws.specs.Writes.{IsWritable, WritesOnly, IsApartSector}
use Rattle.lilo_model.specs.Disks.{Image, DiskSector}
use Rattle.lilo_model.specs.MinixLayout.{Super}
use Rattle.lilo_model.specs.MinixNames.{IsSound}
use Rattle.lilo_model.specs.MinixParts as model
use Rattle.lilo_model.specs.MinixParts.{Parts, is_directory}
use Rattle.minix_change_laws.specs.Beside.{IsDataZone}
use Rattle.minix_steps.specs.Numbers.{has_number}
use Rattle.minix_choice_laws.specs.Growth.{ArePromised}
use Rattle.minix_create.specs.Chosen.{Suits, IsFreeNow, new_inode}
use Rattle.minix_create.specs.Linked.{IsOffName, Creates}
use Rattle.minix_create.specs.Several.{IsHeldIn}
use Rattle.minix_create.specs.declared.chosen.Chosen.{Chosen}
use Rattle.minix_layout.specs.View.{super_view}
use Rattle.minix_steps.specs.Written.{parts_now}
use Rattle.minix_choice.specs.declared.write_fault.WriteFault.{WriteFault}
use Rattle.minix_zones.specs.Volume.{volume_view, past_of}
use Rattle.minix_zones.specs.declared.volume.Volume.{Volume}
use Rattle.write_model.specs.Wish.{Taken}

-- ---- zones

-- whether a zone was chosen for a file, or for its directory's growth
abbrev pub is_chosen : Chosen → ℕ → Bool
is_chosen chosen zone = has_number chosen.choice.zones zone || has_number chosen.choice.growth zone

-- whether an inode is the one that was chosen for a file
abbrev pub is_inode_of : Chosen → ℕ → Bool
is_inode_of chosen number = number == chosen.choice.inode

-- some zones, or inodes, and others too
abbrev pub and_zones : (ℕ → Bool) → (ℕ → Bool) → ℕ → Bool
and_zones others chosen zone = chosen zone || others zone

-- chosen zones are data zones
abbrev pub AreDataZones : Super → (ℕ → Bool) → Type 0
AreDataZones super chosen = (zone : ℕ) → chosen zone ≡ true → IsDataZone super zone

-- ---- a file

-- what was chosen for a file that is no directory suits a volume, and is free there now
pub record IsFreeFile {D : Type 0} {disks : Ghosts D} (volume : Volume D disks) (chosen : Chosen) : Type 0 where
  pub suits : Suits volume.layout volume.span chosen
  pub free : IsFreeNow volume chosen
  pub file : is_directory (new_inode chosen) ≡ false

-- a place isn't one that a writer of files may write, with some chosen zones, as the volume is now
abbrev pub IsKept : {D : Type 0} {disks : Ghosts D} → Volume D disks → (ℕ → Bool) → DiskSector → Type 0
IsKept volume chosen place = IsWritable (volume_view volume) (now (past_of volume)) chosen place → ⊥

-- chosen zones are data zones that aren't marked
abbrev pub AreFreeZones : Super → Parts → (ℕ → Bool) → Type 0
AreFreeZones super parts chosen = (zone : ℕ) → chosen zone ≡ true → IsDataZone super zone × (parts.has_zone zone ≡ false)

-- so are those of the file, and those of growth, where what was promised is so and the file is held, as after its choice
abbrev pub FreeWherePromised : {D : Type 0} {disks : Ghosts D} → Volume D disks → Chosen → Type 0
FreeWherePromised volume chosen =
    (taken : Taken) → ArePromised (super_view volume.layout) (parts_now volume) taken → IsHeldIn taken chosen
    → AreFreeZones (super_view volume.layout) (parts_now volume) (is_chosen chosen)

-- no such place is needed to make the file
abbrev pub NeedsNoOther : {D : Type 0} {disks : Ghosts D} → Volume D disks → Chosen → Type 0
NeedsNoOther volume chosen = (place : DiskSector) → IsKept volume (is_chosen chosen) place → IsOffName volume chosen place.disk place.sector

-- since a volume was as it is here a file was made, or that was refused, in a directory to which some path leads
pub record MakesFile {D : Type 0} {disks : Ghosts D} (start volume : Volume D disks) (chosen : Chosen) : Type 0 where
  pub told : IsTold (past_of start)
  pub outer : List (List ℕ)
  pub given : ℕ → List ℕ
  pub result : Result (Unit {0}) WriteFault
  pub creates : Creates start volume outer chosen given result

-- What it wrote is what a writer of files may write with the chosen zones. From a quiet moment on no other sector is another at
-- any moment. No sector is written that isn't one of the volume's past its block 0.
pub record WritesWithin {D : Type 0} {disks : Ghosts D} (start volume : Volume D disks) (chosen : Chosen) : Type 0 where
  pub others : (place : DiskSector) → IsKept start (is_chosen chosen) place → NotWritten (past_of start) (past_of volume) place.disk place.sector
  pub only : IsQuiet (past_of start) → WritesOnly (volume_view start) (is_chosen chosen) (past_of start) (past_of volume)
  pub apart : (d s : ℕ) → IsApartSector (volume_view start) d s → NotWritten (past_of start) (past_of volume) d s

-- ---- files in a row

-- what a writer of files may write then, it might before, with the file's zones too
abbrev pub WasWritable : {D : Type 0} {disks : Ghosts D} → Volume D disks → Volume D disks → Chosen → Type 0
WasWritable start volume one =
    (chosen : ℕ → Bool) (place : DiskSector) → IsWritable (volume_view volume) (now (past_of volume)) chosen place
    → IsWritable (volume_view start) (now (past_of start)) (and_zones (is_chosen one) chosen) place

-- so what is written later is joined with what the file wrote
abbrev pub WritesJoin : {D : Type 0} {disks : Ghosts D} → Volume D disks → Volume D disks → Chosen → Type 0
WritesJoin start volume one =
    (chosen : ℕ → Bool) (later : Option Past) → IsQuiet (past_of start) → WritesOnly (volume_view volume) chosen (past_of volume) later
    → WritesOnly (volume_view start) (and_zones (is_chosen one) chosen) (past_of start) later

-- and so it is after a run in which no inode gained a zone, such as a renaming
abbrev pub GainsJoinLaw : Type 0
GainsJoinLaw =
    (volume : model.Volume) (one chosen : ℕ → Bool) (old mid new : Option Past)
    → IsTold mid → GainsNothing volume (now old) (now mid) → WritesOnly volume one old mid → WritesOnly volume chosen mid new
    → WritesOnly volume (and_zones one chosen) old new

-- ---- what no writer of files may write

-- what isn't one of a sound volume's sectors past its block 0
abbrev pub ApartLaw : Type 0
ApartLaw =
    (volume : model.Volume) (image : Image) (chosen : ℕ → Bool) (d s : ℕ)
    → IsSound volume image → AreDataZones volume.layout chosen → IsApartSector volume d s
    → IsWritable volume image chosen (record { disk = d; sector = s }) → ⊥
