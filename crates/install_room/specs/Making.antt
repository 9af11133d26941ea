-- What is chosen for an installation may be made: where it is free, and its names lie on a sound volume (this project's
-- own). A path is a list of components, the last one first.
use Rattle.std.specs.Prelude.{◌≡◌, ◌≢◌, ◌<◌, ◌^◌, ℕ, Bool, false, IfSome, List, ◌∷◌, Option, Some, None}
use Rattle.disk_trait.specs.declared.disks.Disks.{Ghosts}
use Rattle.disk_trait.specs.Moments.{IsTold, now}
use Rattle.lilo_model.specs.Disks.{DiskSector}
use Rattle.lilo_model.specs.MinixFindNames.{path_above}
use Rattle.lilo_model.specs.MinixLayout.{Super}
use Rattle.lilo_model.specs.MinixNames.{IsSound}
use Rattle.lilo_model.specs.MinixParts as parts
use Rattle.lilo_model.specs.MinixParts.{Parts}
use Rattle.lilo_model.specs.NamePlaces.{with_tilde}
use Rattle.lilo_model.specs.Settled as model
use Rattle.minix_create.specs.Chosen.{IsFreeNow, MayLinkNow}
use Rattle.minix_create.specs.Several.{AreApartOn}
use Rattle.minix_create.specs.declared.chosen.Chosen.{Chosen}
use Rattle.minix_layout.specs.View.{super_view}
use Rattle.minix_names.specs.Places.{IsPlace}
use Rattle.minix_steps.specs.Written.{parts_now}
use Rattle.minix_zones.specs.Volume.{volume_view, past_of}
use Rattle.minix_zones.specs.declared.volume.Volume.{Volume}
use Rattle.install_laws.specs.InstallVerdict.{made_backup}
use Rattle.install_apart.specs.declared.name.OwnName.{OwnName}
use Rattle.install_apart.specs.declared.name.NamePair.{NamePair}
use Rattle.install_apart.specs.declared.own.OwnNames.{OwnNames}
use Rattle.install_room.specs.Names.{AreNamesOf}
use Rattle.install_room.specs.Room.{IsRoomFor, IsRoomFree, first_of}
use Rattle.install_room.specs.declared.room.Room.{Room}
use Rattle.install_room.specs.declared.room.RoomWish.{RoomWish}

-- ---- where the names lie

-- a path ends with a name in a directory, to which the rest leads, and whose size has 32 bits
pub record LiesIn (super : Super) (parts : Parts) (path : List (List ℕ)) (own : OwnName) : Type 0 where
  pub ends : IsPlace super parts path own.directory own.name
  pub small : (parts.node own.directory).size < 2 ^ 32

-- so do both names of a backup
pub record LiePaired (super : Super) (parts : Parts) (path : List (List ℕ)) (pair : NamePair) : Type 0 where
  pub plain : LiesIn super parts path pair.plain
  pub tilde : LiesIn super parts (with_tilde path) pair.tilde

abbrev pub LiesBackup : Super → Parts → Option (List (List ℕ)) → Option NamePair → Type 0
LiesBackup super parts None None = Unit {0}
LiesBackup super parts None (Some pair) = ⊥
LiesBackup super parts (Some path) None = ⊥
LiesBackup super parts (Some path) (Some pair) = LiePaired super parts path pair

-- The names of an installation lie on a sound volume now, as they were found, and no backup is made under that of the map.
pub record LieNow {D : Type 0} {disks : Ghosts D} (volume : Volume D disks) (names : model.OwnNames) (forced : Bool) (own : OwnNames) : Type 0 where
  pub told : IsTold (past_of volume)
  pub sound : IsSound (volume_view volume) (now (past_of volume))
  pub are : AreNamesOf (super_view volume.layout) (parts_now volume) names own
  pub map : LiesIn (super_view volume.layout) (parts_now volume) (with_tilde names.map) own.map.tilde
  pub backup : LiesBackup (super_view volume.layout) (parts_now volume) names.backup own.backup
  pub apart : made_backup (super_view volume.layout) (parts_now volume) forced names.backup ≢ Some (with_tilde names.map)

-- ---- what may be made

-- what is chosen may be made now, by the name with which a path ends, where the rest of it leads
pub record MayMake {D : Type 0} {disks : Ghosts D} (volume : Volume D disks) (path : List (List ℕ)) (chosen : Chosen) : Type 0 where
  pub free : IsFreeNow volume chosen
  pub name : MayLinkNow volume (path_above path) chosen
  pub ends : chosen.name ∷ path_above path ≡ path

-- so may a backup, where one is to be made
abbrev pub MayMakeBackup : {D : Type 0} {disks : Ghosts D} → Volume D disks → Option (List (List ℕ)) → Option Chosen → Type 0
MayMakeBackup volume None None = Unit {0}
MayMakeBackup volume None (Some chosen) = ⊥
MayMakeBackup volume (Some path) None = ⊥
MayMakeBackup volume (Some path) (Some chosen) = MayMake volume path chosen

-- So may both: they have nothing in common, and each has a name of its own.
pub record MayMakeRoom {D : Type 0} {disks : Ghosts D} (volume : Volume D disks) (names : model.OwnNames) (forced : Bool) (room : Room) : Type 0 where
  pub backup : MayMakeBackup volume (made_backup (super_view volume.layout) (parts_now volume) forced names.backup) room.backup
  pub map : MayMake volume (with_tilde names.map) room.map
  pub apart : IfSome room.backup (λ chosen. AreApartOn volume chosen room.map)
  pub names_differ : IfSome room.backup (λ chosen. room.map.directory ≡ chosen.directory → room.map.name ≢ chosen.name)

-- so it is of a room for names that lie there, which is free beside the places that were kept out at first, once settled
abbrev pub MayMakeWhereSound : {D : Type 0} {disks : Ghosts D} → Volume D disks → Room → Type 0
MayMakeWhereSound volume room =
    (names : model.OwnNames) (own : OwnNames) (wish : RoomWish) (view : parts.Volume) (places : List DiskSector) → IsRoomFor own wish room
    → IsRoomFree volume (first_of view places wish.unsettled wish.forced own) room → wish.unsettled ≡ false
    → LieNow volume names wish.forced own → MayMakeRoom volume names wish.forced room
