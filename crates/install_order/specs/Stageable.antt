-- What may be staged of a plan: the files of its room, where they lie, and what they leave of the map that was there (this
-- project's own).
use Rattle.std.specs.Prelude.{◌≡◌, ◌≤◌, ◌<◌, ◌*◌, ◌^◌, ℕ, Bool, true, false, not, is_some, List, length, All, IfSome, Option, None, Some, Result, Ok, Err}
use Rattle.disk_trait.specs.declared.disks.Disks.{Ghosts}
use Rattle.disk_trait.specs.Moments.{IsTold, now}
use Rattle.lilo_model.specs.Disks.{Image, Machine, DiskSector}
use Rattle.lilo_model.specs.MinixEntries.{is_dots}
use Rattle.lilo_model.specs.MinixLayout.{Super, is_size}
use Rattle.lilo_model.specs.MinixNames.{reached, IsSound}
use Rattle.lilo_model.specs.MinixParts.{Parts, is_file}
use Rattle.lilo_model.specs.Planned.{planned}
use Rattle.lilo_model.specs.Settled as model
use Rattle.lilo_conf.specs.View.{config_view}
use Rattle.map_laws.specs.Accepted.{IsAccepted}
use Rattle.mbr_table.specs.View.{device_view}
use Rattle.map_sectors.specs.Map.{plan_view}
use Rattle.minix_create.specs.Chosen.{new_inode}
use Rattle.minix_create.specs.declared.chosen.Chosen.{Chosen}
use Rattle.minix_fill.specs.Fill.{IsOfFile}
use Rattle.minix_layout.specs.View.{super_view}
use Rattle.minix_names.specs.Component.{IsFileName}
use Rattle.minix_names.specs.Places.{IsPlace}
use Rattle.minix_steps.specs.Written.{parts_now}
use Rattle.minix_zones.specs.View.{span_view}
use Rattle.minix_zones.specs.Volume.{volume_view, past_of}
use Rattle.minix_zones.specs.declared.volume.Volume as volumes
use Rattle.sector_address.specs.Machine.{machine_of}
use Rattle.install_apart.specs.Apart.{device_checks}
use Rattle.install_apart.specs.Own.{AreInside, AreOwnTwins, IsBackupNamed}
use Rattle.install_apart.specs.declared.name.NamePair.{NamePair}
use Rattle.install_apart.specs.declared.name.OwnName.{OwnName}
use Rattle.install_apart.specs.declared.own.OwnNames.{OwnNames}
use Rattle.install_stage.specs.BackupStages.{HasOtherName, MayReplace}
use Rattle.install_stage_laws.specs.BeginLaws.{IsNoneOfMap}
use Rattle.install_laws.specs.InstallVerdict.{sectors_of_blocks}
use Rattle.install_laws.specs.Writes.{AreAvoided}
use Rattle.install_stage.specs.Sectors.{IsWholeFile, file_places}
use Rattle.install_room.specs.Making.{LiePaired, LiesBackup, MayMakeRoom}
use Rattle.install_room.specs.Room.{AvoidPlaces, HasNoHoles, IsRoomFor, IsRoomFree, KeepsOut, SuitRoom, first_of, places_view}
use Rattle.install_room.specs.declared.room.Room.{Room}
use Rattle.install_room.specs.declared.room.RoomWish.{RoomWish}
use Rattle.install_stage.specs.Blocks.{MayLieAt}
pub use Rattle.install_stage.specs.Stages.{backup_zones, room_zones}
use Rattle.install_stage.specs.Stages.{MayStageRoom}
use Rattle.install_stage_laws.specs.Staged.{AreFree}
use Rattle.install_order.specs.Plans.{ArePlaced, IsBackupPlaced, IsPairPlaced}
use Rattle.install_order.specs.declared.examination.Examined.{Examined}
use Rattle.install_order.specs.declared.halt.Halt.{Halt}
use Rattle.install_order.specs.declared.planned.Planned.{Planned}
use Rattle.install_order.specs.declared.surveyed.Surveyed.{Surveyed}

-- ---- the names, where they lie

-- the size of a directory has 32 bits, where it is one that is read
abbrev pub IsSmallWhereRead : Super → Parts → ℕ → Type 0
IsSmallWhereRead super parts directory =
    is_size super.kind (parts.node directory).size ≡ true → (parts.node directory).size < 2 ^ 32

-- the names of a map and of a backup lie in directories whose sizes have 32 bits
pub record LieThere (super : Super) (parts : Parts) (names : model.OwnNames) (own : OwnNames) : Type 0 where
  pub map : LiePaired super parts names.map own.map
  pub backup : LiesBackup super parts names.backup own.backup

-- so they do on a sound volume now, where each is in the directory to which its path leads
abbrev pub PairLiesWhereSound : {D : Type 0} {disks : Ghosts D} → volumes.Volume D disks → NamePair → Type 0
PairLiesWhereSound volume pair =
    IsTold (past_of volume) → IsSound (volume_view volume) (now (past_of volume)) → (path : List (List ℕ))
    → IsPairPlaced (super_view volume.layout) (parts_now volume) path pair → LiePaired (super_view volume.layout) (parts_now volume) path pair

abbrev pub BackupLiesWhereSound : {D : Type 0} {disks : Ghosts D} → volumes.Volume D disks → Option NamePair → Type 0
BackupLiesWhereSound volume pair =
    IsTold (past_of volume) → IsSound (volume_view volume) (now (past_of volume)) → (path : Option (List (List ℕ)))
    → IsBackupPlaced (super_view volume.layout) (parts_now volume) path pair → LiesBackup (super_view volume.layout) (parts_now volume) path pair

abbrev pub LieWhereSound : {D : Type 0} {disks : Ghosts D} → volumes.Volume D disks → OwnNames → Type 0
LieWhereSound volume own =
    IsTold (past_of volume) → IsSound (volume_view volume) (now (past_of volume)) → (names : model.OwnNames)
    → ArePlaced (super_view volume.layout) (parts_now volume) names own → LieThere (super_view volume.layout) (parts_now volume) names own

-- ---- the room, as it is found

-- what is wished of a room that has so many places
abbrev pub wish_for : Bool → Bool → ℕ → Room → RoomWish
wish_for forced unsettled time room = record {
  forced = forced;
  unsettled = unsettled;
  sectors = length room.places.items;
  time = time;
}

-- it is free on a volume beside what is kept out with some places, and lies outside these
pub record IsBeside {D : Type 0} {disks : Ghosts D} (volume : volumes.Volume D disks) (places : List DiskSector) (wish : RoomWish) (own : OwnNames)
    (room : Room) : Type 0 where
  pub free : IsRoomFree volume (first_of (volume_view volume) places wish.unsettled wish.forced own) room
  pub avoids : IsTold (past_of volume) → AvoidPlaces (volume_view volume) places room

-- it is the room that is wished by the names that were found, each of its blocks gets a zone, the places are those of the map's
-- blocks, and it is beside each places that were kept out
pub record IsWishedRoom {D : Type 0} {disks : Ghosts D} (volume : volumes.Volume D disks) (found : Examined) (wish : RoomWish)
    (room : Room) : Type 0 where
  pub made : IsRoomFor found.own wish room
  pub whole : IsTold (past_of volume) → HasNoHoles room
  pub lies : places_view room ≡ sectors_of_blocks (span_view volume.span) room.map.choice.blocks wish.sectors
  pub beside : (places : List DiskSector) → KeepsOut (volume_view volume) places found.old → IsBeside volume places wish found.own room

-- ---- its files, whatever the disks hold

-- what is chosen is for a regular file, and its sectors have numbers of 32 bits
pub record IsRegular (chosen : Chosen) : Type 0 where
  pub file : IsOfFile (new_inode chosen)
  pub fits : 2 * length chosen.choice.blocks < 2 ^ 32

-- for one of one block
pub record IsBackupFile (chosen : Chosen) : Type 0 where
  pub regular : IsRegular chosen
  pub one : length chosen.choice.blocks ≤ 1

-- The room is the one that is wished for the configuration, by the names that are held: regular files, and the map's places are
-- on the disk of its plan, those of its file's blocks, sector by sector. The names are in directories of the volume, those with `~`
-- beside their own, and files may have them.
pub record HasFiles {D : Type 0} {disks : Ghosts D} (planned : Planned D disks) : Type 0 where
  pub made : IsRoomFor planned.own (wish_for (is_some planned.plan.config.force_backup) (not planned.settled) planned.time planned.room) planned.room
  pub suits : SuitRoom planned.volume.layout planned.volume.span planned.room
  pub map : IsRegular planned.room.map
  pub backup : IfSome planned.room.backup IsBackupFile
  pub disk : All (λ place. place.disk ≡ planned.plan.disk) planned.room.places.items
  pub lies : places_view planned.room ≡ file_places planned.room.map planned.volume.span.disk (length planned.room.places.items)
  pub holes : IsTold (past_of planned.volume) → HasNoHoles planned.room
  -- the names
  pub inside : AreInside planned.volume.layout planned.own
  pub twins : AreOwnTwins planned.own
  pub called : IsFileName planned.own.map.plain.name
  pub backup_called : IsBackupNamed planned.own.backup

-- ---- what may be staged

-- the map's file is one of whole sectors, and so is the backup's, of one
pub record AreWhole (room : Room) : Type 0 where
  pub map : IsWholeFile room.map (length room.places.items)
  pub backup : IfSome room.backup (λ chosen. IsWholeFile chosen 1)

-- A map may take a name: a path ends with it, in its directory; it is neither `.` nor `..`; and a regular file is there, or nothing.
pub record MayTakeMap (super : Super) (parts : Parts) (path : List (List ℕ)) (own : OwnName) : Type 0 where
  pub place : IsPlace super parts path own.directory own.name
  pub named : is_dots own.name ≡ false
  pub former : IfSome (reached super parts path) (λ former. is_file (parts.node former) ≡ true)

-- In an image a plan may be staged, for names that are replaced and places that a boot of the map that was there may look at.
pub record MayStage {D : Type 0} {disks : Ghosts D} (image : Image) (machine : Machine) (names : model.OwnNames) (places : List DiskSector)
    (plan : Planned D disks) : Type 0 where
  -- the devices of its configuration are apart from the volume
  pub devices : device_checks image machine (volume_view plan.volume) (config_view plan.plan.config) (device_view plan.device) ≡ Ok tt
  -- its files may be made, each by its name
  pub makes : MayMakeRoom plan.volume names (is_some plan.plan.config.force_backup) plan.room
  pub whole : AreWhole plan.room
  -- the plan is that of the image, and its checks accepted the map's places
  pub plan_is : plan_view plan.plan ≡ planned image machine (volume_view plan.volume) (config_view plan.plan.config) plan.time
  pub lies : MayLieAt machine plan.plan plan.room.places.items
  pub accepted : IsAccepted image machine (volume_view plan.volume) (span_view plan.boot) (config_view plan.plan.config) plan.time (places_view plan.room)
  -- each chosen zone is a data zone that isn't marked, and has none of the places
  pub free : AreFree (volume_view plan.volume) image (room_zones plan.room)
  pub avoids : AreAvoided (volume_view plan.volume) (room_zones plan.room) places
  -- what is at the backup's path may be replaced; that path is neither of the map's, and the map's file has neither of its names
  pub over : IfSome names.backup (MayReplace plan.volume)
  pub apart : IfSome names.backup (IsNoneOfMap names.map)
  pub others : IfSome names.backup (λ path. IfSome plan.room.backup (λ chosen. HasOtherName path chosen plan.room.map))
  -- the map may take its name
  pub takes : MayTakeMap (super_view plan.volume.layout) (parts_now plan.volume) names.map plan.own.map.plain
  pub present : plan.present ≡ image plan.boot.disk plan.boot.start

-- so it is where names are settled
abbrev pub GivesStage : {D : Type 0} {disks : Ghosts D} → Image → Machine → Surveyed D disks → model.OwnNames → List DiskSector
    → Result (Planned D disks) (Halt D disks) → Type 0
GivesStage image machine surveyed names places (Ok planned) = surveyed.settled ≡ true → MayStage image machine names places planned
GivesStage image machine surveyed names places (Err halt) = Unit {0}

-- the path of a backup, where one is made
abbrev pub path_made : Option Chosen → Option (List (List ℕ)) → Option (List (List ℕ))
path_made None path = None
path_made (Some chosen) path = path

-- so it is now, for some names and places, and both files may be staged by them
pub record MayStageNow {D : Type 0} {disks : Ghosts D} (planned : Planned D disks) : Type 0 where
  pub names : model.OwnNames
  pub places : List DiskSector
  pub may : MayStage (now (past_of planned.volume)) (machine_of disks planned.volume.disks.now) names places planned
  pub room : MayStageRoom planned.volume (machine_of disks planned.volume.disks.now) (path_made planned.room.backup names.backup) names.map
      (is_some planned.plan.config.force_backup) planned.plan planned.room

-- what is planned is ready to be staged, where names are settled
pub record IsReady {D : Type 0} {disks : Ghosts D} (planned : Planned D disks) : Type 0 where
  pub files : HasFiles planned
  pub may : IsTold (past_of planned.volume) → planned.settled ≡ true → MayStageNow planned
