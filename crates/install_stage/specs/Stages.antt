-- The staging of an installation's files, its backup and then its map: what it needs, what it leaves and what it writes (rules of
-- this project's own). A path is a list of components, the last one first; a backup has one, where it is made.
use Rattle.std.specs.Prelude.{◌≡◌, ◌≢◌, ◌⊎◌, ℕ, Bool, false, List, map, Option, None, Some, Result, OnOk}
use Rattle.disk_trait.specs.declared.disks.Disks.{Ghosts}
use Rattle.disk_trait.specs.Calls.{GoesOn}
use Rattle.disk_trait.specs.Moments.{IsTold, now, LeavesOnly}
use Rattle.disk_trait.specs.NotWritten.{NotWritten}
use Rattle.lilo_model.specs.Disks.{Image, Machine, Span}
use Rattle.lilo_model.specs.Lays.{AreAt}
use Rattle.lilo_model.specs.MinixFindNames.{Names}
use Rattle.lilo_model.specs.MinixNames.{File, names_in, reached, IsSound}
use Rattle.lilo_model.specs.MinixParts.{Volume, parts_of}
use Rattle.lilo_model.specs.NamePlaces.{with_name, with_tilde}
use Rattle.lilo_model.specs.Settled.{Held}
use Rattle.map_laws.specs.MapLays.{HoldsMap}
use Rattle.map_sectors.specs.Map.{plan_view}
use Rattle.map_sectors.specs.declared.map.MapPlan.{MapPlan}
use Rattle.minix_create.specs.Chosen.{IsNewInode}
use Rattle.minix_create.specs.Several.{AreApartOn}
use Rattle.minix_create.specs.declared.chosen.Chosen.{Chosen}
use Rattle.minix_choice.specs.declared.write_fault.WriteFault.{WriteFault}
use Rattle.minix_choice.specs.declared.write_fault.WriteFault.TheVariants.{Device}
use Rattle.minix_zones.specs.Volume.{volume_view, past_of, KeepsVolume, HasDeviceCause}
use Rattle.minix_zones.specs.declared.volume.Volume as volumes
use Rattle.install_stage.specs.BackupStaged.{made_at, with_backup, AreStaging, KeepsApart}
use Rattle.install_stage.specs.BackupStages.{HasOtherName, MayStageFile}
use Rattle.install_laws.specs.Writes.{IsApartSector, WritesOnly}
use Rattle.install_stage.specs.Within.{and_zones, is_chosen, is_inode_of}
use Rattle.install_room.specs.Room.{places_view}
use Rattle.install_room.specs.declared.room.Room.{Room}
use Rattle.install_settle.specs.Settles.{HasNames}
use Rattle.install_stage_laws.specs.ClearMap.{KeepsFiles, KeepsFilesBut}
use Rattle.install_stage_laws.specs.Marked.{FreesAt, KeepsMarkedBut}
use Rattle.install_stage_laws.specs.Staged.{AreFree}
use Rattle.install_stage.specs.Blocks.{sectors_of_map}
use Rattle.install_stage.specs.MapFile.{map_bytes, IsMapRoom, LieInChosen}

-- ---- zones

-- whether a zone was chosen for a file of a room, or for the growth of its directory
abbrev pub backup_zones : Option Chosen → ℕ → Bool
backup_zones None zone = false
backup_zones (Some chosen) zone = is_chosen chosen zone

abbrev pub room_zones : Room → ℕ → Bool
room_zones room = and_zones (backup_zones room.backup) (is_chosen room.map)

-- the inodes of its files
abbrev pub backup_inodes : Option Chosen → ℕ → Bool
backup_inodes None number = false
backup_inodes (Some chosen) number = is_inode_of chosen number

abbrev pub room_inodes : Room → ℕ → Bool
room_inodes room = and_zones (backup_inodes room.backup) (is_inode_of room.map)

-- ---- what it needs

-- A backup may be staged at its path. It has nothing in common with what is chosen for the map, and each has a name of its own: the
-- backup's is neither `map` nor that with `~`.
pub record MayStageBeside {D : Type 0} {disks : Ghosts D} (volume : volumes.Volume D disks) (path map : List (List ℕ)) (forced : Bool)
    (chosen other : Chosen) : Type 0 where
  pub may : MayStageFile volume path forced chosen
  pub apart : AreApartOn volume chosen other
  pub names : HasOtherName path chosen other
  pub plain : path ≢ map
  pub tilde : path ≢ with_tilde map

-- so it may be where one is made
abbrev pub MayStageBackup : {D : Type 0} {disks : Ghosts D} → volumes.Volume D disks → Option (List (List ℕ)) → List (List ℕ) → Bool
    → Option Chosen → Chosen → Type 0
MayStageBackup volume None map forced None other = Unit {0}
MayStageBackup volume None map forced (Some chosen) other = ⊥
MayStageBackup volume (Some path) map forced None other = ⊥
MayStageBackup volume (Some path) map forced (Some chosen) other = MayStageBeside volume path map forced chosen other

-- What is chosen for both files may be staged: the backup at its path, and the map at the path of `map` with `~`.
pub record MayStageRoom {D : Type 0} {disks : Ghosts D} (volume : volumes.Volume D disks) (machine : Machine)
    (backup : Option (List (List ℕ))) (map : List (List ℕ)) (forced : Bool) (plan : MapPlan) (room : Room) : Type 0 where
  pub backup_may : MayStageBackup volume backup map forced room.backup room.map
  pub map_may : IsMapRoom volume machine map room.map plan room.places.items

-- so they may by some paths
pub record MayStageSomeRoom {D : Type 0} {disks : Ghosts D} (volume : volumes.Volume D disks) (forced : Bool) (plan : MapPlan)
    (room : Room) : Type 0 where
  pub machine : Machine
  pub backup : Option (List (List ℕ))
  pub map : List (List ℕ)
  pub may : MayStageRoom volume machine backup map forced plan room

-- ---- images

-- Names with the backup, where one is made
abbrev pub with_backup_made : Bool → Option (List (List ℕ)) → List ℕ → Names → Names
with_backup_made forced None present old = old
with_backup_made forced (Some path) present old = with_backup forced path present old

-- with the map at the path of `map` with `~` too
abbrev pub with_room : Bool → Option (List (List ℕ)) → List ℕ → List (List ℕ) → List ℕ → Names → Names
with_room forced backup present map bytes old = with_name (with_tilde map) (Some (File bytes)) (with_backup_made forced backup present old)

-- an image has the Names of another one, on the way to the backup's or with it
abbrev pub AreStagingBackup : Volume → Image → Bool → Option (List (List ℕ)) → List ℕ → Image → Type 0
AreStagingBackup volume old forced None present c = HasNames volume c (names_in volume old)
AreStagingBackup volume old forced (Some path) present c = AreStaging volume old forced path present c

-- each path leads where it led but the map's with `~`, and the backup's two
abbrev pub IsNoneOfBackup : Bool → Option (List (List ℕ)) → List (List ℕ) → Type 0
IsNoneOfBackup forced None name = Unit {0}
IsNoneOfBackup forced (Some path) name = (name ≢ made_at forced path) × (name ≢ path)

abbrev pub KeepsOtherPaths : Volume → Image → Bool → Option (List (List ℕ)) → List (List ℕ) → Image → Type 0
KeepsOtherPaths volume old forced backup map c =
    (name : List (List ℕ)) → name ≢ with_tilde map → IsNoneOfBackup forced backup name
    → reached volume.layout (parts_of volume c) name ≡ reached volume.layout (parts_of volume old) name

-- each file stays that was named, but what the backup's name alone named
abbrev pub KeepsButBackup : Volume → Option (List (List ℕ)) → Image → Image → Type 0
KeepsButBackup volume None old c = KeepsFiles volume old c
KeepsButBackup volume (Some path) old c = KeepsFilesBut volume path old c

-- the image is Held where another one is, by a boot sector that isn't one of the volume's past its block 0
abbrev pub StaysHeld : Volume → Image → List (List ℕ) → Image → Type 0
StaysHeld volume old map c =
    (machine : Machine) (boot : Span) → IsApartSector volume boot.disk boot.start → Held old machine volume boot map → Held c machine volume boot map

-- The volume is sound, and its Names are those before, on the way to the backup's or with it, or with the map too; all else stays.
pub record IsStagingRoom (volume : Volume) (old : Image) (forced : Bool) (backup : Option (List (List ℕ))) (present : List ℕ)
    (map : List (List ℕ)) (bytes : List ℕ) (c : Image) : Type 0 where
  pub sound : IsSound volume c
  pub names : AreStagingBackup volume old forced backup present c
      ⊎ HasNames volume c (with_room forced backup present map bytes (names_in volume old))
  pub paths : KeepsOtherPaths volume old forced backup map c
  pub files : KeepsButBackup volume backup old c
  pub apart : KeepsApart volume old c
  pub held : StaysHeld volume old map c

-- ---- once they are there

-- the name of a backup that is made leads to the inode that was chosen for it
abbrev pub LeadsBackup : Volume → Image → Option (List (List ℕ)) → Option Chosen → Type 0
LeadsBackup volume c None None = Unit {0}
LeadsBackup volume c None (Some chosen) = ⊥
LeadsBackup volume c (Some path) None = Unit {0}
LeadsBackup volume c (Some path) (Some chosen) = reached volume.layout (parts_of volume c) path ≡ Some chosen.choice.inode

-- what the backup's name led to is freed, where one is made
abbrev pub FreesBackup : Volume → Image → Option (List (List ℕ)) → Image → Type 0
FreesBackup volume old None c = Unit {0}
FreesBackup volume old (Some path) c = FreesAt volume.layout (parts_of volume old) path (parts_of volume c)

-- Both files are there. The name with `~` leads to the inode that was chosen for the map, as it was made, and the planned map is in
-- it, each of whose sectors lies at its place; that of a backup leads to its inode. Beside these and their zones nothing is marked
-- that wasn't, and what the backup replaced is freed, as no zone was chosen that was marked.
pub record HasStagedRoom {D : Type 0} {disks : Ghosts D} (start new : volumes.Volume D disks) (machine : Machine) (forced : Bool)
    (backup : Option (List (List ℕ))) (present : List ℕ) (path : List (List ℕ)) (plan : MapPlan) (room : Room) : Type 0 where
  pub names : HasNames (volume_view start) (now (past_of new))
      (with_room forced backup present path (map_bytes machine plan room.places.items) (names_in (volume_view start) (now (past_of start))))
  pub leads : reached (volume_view start).layout (parts_of (volume_view start) (now (past_of new))) (with_tilde path)
      ≡ Some room.map.choice.inode
  pub node : IsNewInode room.map ((parts_of (volume_view start) (now (past_of new))).node room.map.choice.inode)
  pub holds : HoldsMap (now (past_of new)) machine (volume_view start) (plan_view plan) path (places_view room)
  pub holder : holds.holder ≡ room.map.choice.inode
  pub lies : AreAt (now (past_of new)) (places_view room) (sectors_of_map machine plan room.places.items)
  pub backup_leads : LeadsBackup (volume_view start) (now (past_of new)) backup room.backup
  pub frees : AreFree (volume_view start) (now (past_of start)) (room_zones room)
      → FreesBackup (volume_view start) (now (past_of start)) backup (now (past_of new))
  pub marks : KeepsMarkedBut (volume_view start).layout (room_inodes room) (room_zones room)
      (parts_of (volume_view start) (now (past_of start))) (parts_of (volume_view start) (now (past_of new)))

-- ---- the call

-- Since a volume was as it is here, at a quiet moment, its files were staged, or that was refused: what a stop leaves, at any
-- moment, and what the disks hold now; what is written; and when it is refused.
pub record StagesRoom {D : Type 0} {disks : Ghosts D} (start new : volumes.Volume D disks) (machine : Machine) (forced : Bool)
    (backup : Option (List (List ℕ))) (present : List ℕ) (path : List (List ℕ)) (plan : MapPlan) (room : Room)
    (result : Result (Unit {0}) WriteFault) : Type 0 where
  pub any_moment : LeavesOnly (past_of start) (past_of new)
      (IsStagingRoom (volume_view start) (now (past_of start)) forced backup present path (map_bytes machine plan room.places.items))
  pub left : IsTold (past_of start)
      → IsStagingRoom (volume_view start) (now (past_of start)) forced backup present path (map_bytes machine plan room.places.items)
      (now (past_of new))
  pub done : IsTold (past_of start) → OnOk result (HasStagedRoom start new machine forced backup present path plan room)
  pub lies : IsTold (past_of start) → LieInChosen start room.map (places_view room)
  -- what is written
  pub only : WritesOnly (volume_view start) (room_zones room) (past_of start) (past_of new)
  pub apart : IsTold (past_of start) → (d s : ℕ) → IsApartSector (volume_view start) d s → NotWritten (past_of start) (past_of new) d s
  -- when it is refused, and what stays
  pub device : IsTold (past_of start) → HasDeviceCause start new Device result
  pub goes_on : GoesOn disks start.disks.now new.disks.now
  pub kept : KeepsVolume start new
