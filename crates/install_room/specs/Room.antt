-- The room that an installation takes, as it is found (this project's own).
use Rattle.std.specs.Prelude.{◌≡◌, ◌≢◌, ◌≤◌, ◌<◌, ◌*◌, ℕ, Bool, true, false, if◌then◌else◌, IfSome, map, length, slice_index, List, [], Option, Some, None}
use Rattle.std.specs.Prelude.{Result, Ok, Err}
use Rattle.disk_trait.specs.declared.disks.Disks.{Ghosts}
use Rattle.disk_trait.specs.declared.disks.Span.{Span}
use Rattle.disk_trait.specs.Moments.{IsTold}
use Rattle.lilo_model.specs.Disks.{DiskSector}
use Rattle.lilo_model.specs.MinixLayout as layouts
use Rattle.lilo_model.specs.MinixParts.{Parts, Volume, blocks_for}
use Rattle.lilo_model.specs.Settled as model
use Rattle.minix_steps.specs.Numbers.{has_number}
use Rattle.minix_choice_laws.specs.Growth.{ArePromised}
use Rattle.minix_create.specs.Chosen.{Suits, IsFreeWhereSound, LinksWhereSound}
use Rattle.minix_create.specs.Several.{AreApartOn, IsHeldIn}
use Rattle.minix_create.specs.declared.chosen.Chosen.{Chosen}
use Rattle.minix_layout.specs.View.{super_view}
use Rattle.minix_layout.specs.declared.superblock.Super.{Super}
use Rattle.minix_steps.specs.Written.{parts_now}
use Rattle.minix_choice.specs.Taken.{with_choice}
use Rattle.minix_choice.specs.View.{Promised, taken_view, Gives}
use Rattle.minix_choice.specs.declared.write_fault.WriteFault.{WriteFault}
use Rattle.minix_zones.specs.Volume.{past_of}
use Rattle.minix_zones.specs.declared.volume.Volume as volumes
use Rattle.slot_lists.specs.Made.{place_view}
use Rattle.write_model.specs.Choice.{choose, taken_with}
use Rattle.write_model.specs.Wish as rooms
use Rattle.install_laws.specs.InstallVerdict.{is_of_places, taken_first, stale_names, made_backup, room_on, file_mode}
use Rattle.present_map.specs.Old.{Old}
use Rattle.install_apart.specs.declared.name.OwnName.{OwnName}
use Rattle.install_apart.specs.declared.name.NamePair.{NamePair}
use Rattle.install_apart.specs.declared.own.OwnNames.{OwnNames}
use Rattle.install_room.specs.Names.{backup_of, own_wish, stale_of}
use Rattle.install_room.specs.declared.room.Room.{Room}
use Rattle.install_room.specs.declared.room.RoomWish.{RoomWish}

-- the zones that a present map keeps out are those in which some places lie
abbrev pub KeepsOut : Volume → List DiskSector → Old → Type 0
KeepsOut volume places old = (zone : ℕ) → has_number old.met.zones zone ≡ is_of_places volume places zone

-- what is taken has room for each number of a volume with this superblock
pub record HasRoomFor (layout : Super) (taken : Promised) : Type 0 where
  pub inodes : layout.inodes < taken.inodes.below
  pub zones : layout.zones ≤ taken.zones.below

-- ---- what is chosen

-- it is a file of so many bytes by a name
pub record IsForName (own : OwnName) (length time : ℕ) (chosen : Chosen) : Type 0 where
  pub mode : chosen.mode ≡ file_mode
  pub size : chosen.length ≡ length
  pub time_is : chosen.time ≡ time
  pub directory : chosen.directory ≡ own.directory
  pub name : chosen.name ≡ own.name

-- so is a backup, where one is made, by the name that is found for it
abbrev pub IsForBackup : Option OwnName → ℕ → Option Chosen → Type 0
IsForBackup None time None = Unit {0}
IsForBackup None time (Some chosen) = ⊥
IsForBackup (Some own) time None = ⊥
IsForBackup (Some own) time (Some chosen) = IsForName own 512 time chosen

-- each of its blocks gets a zone
abbrev pub HasNoHole : Chosen → Type 0
HasNoHole chosen = (index : ℕ) → index < blocks_for chosen.length → slice_index chosen.choice.blocks index ≢ 0

-- in no zone that is chosen, for the file or for its directory, lies one of some places
pub record AvoidsPlaces (volume : Volume) (places : List DiskSector) (chosen : Chosen) : Type 0 where
  pub zones : (zone : ℕ) → has_number chosen.choice.zones zone ≡ true → is_of_places volume places zone ≡ false
  pub growth : (level : ℕ) → level < length chosen.choice.growth → is_of_places volume places (slice_index chosen.choice.growth level) ≡ false

-- it is free, and its name may be made, beside what was taken before
pub record IsFree {D : Type 0} {disks : Ghosts D} (volume : volumes.Volume D disks) (taken : Promised) (chosen : Chosen) : Type 0 where
  pub zones : IsFreeWhereSound volume (taken_view taken) chosen
  pub name : LinksWhereSound volume (taken_view taken) chosen

-- what is chosen for a backup, if one is made, is the model's choice, and is taken
abbrev pub GivesFor : layouts.Super → Parts → Promised → Promised → Option OwnName → ℕ → Result (Option Chosen) WriteFault → Type 0
GivesFor super parts old new None time (Ok None) = new ≡ old
GivesFor super parts old new None time (Ok (Some chosen)) = ⊥
GivesFor super parts old new None time (Err fault) = ⊥
GivesFor super parts old new (Some own) time (Ok None) = ⊥
GivesFor super parts old new (Some own) time (Ok (Some chosen)) =
    (choose super parts (taken_view old) (own_wish own 512 time) ≡ Ok chosen.choice) × (new ≡ with_choice old own.directory chosen.choice)
GivesFor super parts old new (Some own) time (Err fault) =
    Gives (λ (chosen : Chosen). chosen.choice) (Err fault) (choose super parts (taken_view old) (own_wish own 512 time))

abbrev pub GivesBackup : layouts.Super → Parts → Promised → Promised → Option NamePair → Bool → ℕ → Result (Option Chosen) WriteFault → Type 0
GivesBackup super parts old new pair forced time result = GivesFor super parts old new (backup_of forced pair) time result

-- what is taken once a backup is chosen too
abbrev pub with_backup : Promised → Option Chosen → Promised
with_backup taken None = taken
with_backup taken (Some chosen) = with_choice taken chosen.directory chosen.choice

-- ---- the whole

-- the room that the model finds for what is wished, where a boot of the present map may look at some places
abbrev pub room_for : Volume → Parts → List DiskSector → model.OwnNames → RoomWish → Result (List DiskSector) rooms.Refusal
room_for volume parts places names wish =
    room_on volume parts
    (taken_first volume places (if wish.unsettled then stale_names volume.layout parts wish.forced names else []))
    wish.time
    (made_backup volume.layout parts wish.forced names.backup)
    names.map
    wish.sectors

-- the places of a room
abbrev pub places_view : Room → List DiskSector
places_view room = map place_view room.places.items

-- what is chosen suits a volume with a superblock in a span
pub record SuitRoom (layout : Super) (span : Span) (room : Room) : Type 0 where
  pub map : Suits layout span room.map
  pub backup : IfSome room.backup (Suits layout span)

-- it is the room that is wished, by the names that were found
pub record IsRoomFor (own : OwnNames) (wish : RoomWish) (room : Room) : Type 0 where
  pub map : IsForName own.map.tilde (512 * wish.sectors) wish.time room.map
  pub backup : IsForBackup (backup_of wish.forced own.backup) wish.time room.backup

-- each block of both files gets a zone
pub record HasNoHoles (room : Room) : Type 0 where
  pub map : HasNoHole room.map
  pub backup : IfSome room.backup HasNoHole

-- both lie outside some places
pub record AvoidPlaces (volume : Volume) (places : List DiskSector) (room : Room) : Type 0 where
  pub map : AvoidsPlaces volume places room.map
  pub backup : IfSome room.backup (AvoidsPlaces volume places)

-- the same of what the model takes once a backup is chosen too
abbrev pub taken_beside : rooms.Taken → Option Chosen → rooms.Taken
taken_beside taken None = taken
taken_beside taken (Some chosen) = taken_with taken chosen.directory chosen.choice

-- what is taken at first
abbrev pub first_of : Volume → List DiskSector → Bool → Bool → OwnNames → rooms.Taken
first_of volume places unsettled forced own = taken_first volume places (if unsettled then stale_of forced own else [])

-- once both are taken, all that was promised is free, and both are held
pub record AreTaken {D : Type 0} {disks : Ghosts D} (volume : volumes.Volume D disks) (backup : Option Chosen) (map : Chosen) : Type 0 where
  pub last : rooms.Taken
  pub promised : ArePromised (super_view volume.layout) (parts_now volume) last
  pub map_held : IsHeldIn last map
  pub backup_held : IfSome backup (IsHeldIn last)

-- What is chosen is free beside what was kept out at first, the map's beside the backup's too, and they have nothing in
-- common. What is promised to the backup is free, and so is what is promised to both.
pub record AreFree {D : Type 0} {disks : Ghosts D} (volume : volumes.Volume D disks) (first : rooms.Taken) (backup : Option Chosen)
    (map : Chosen) : Type 0 where
  pub backup_free : IfSome backup (λ chosen. IsFreeWhereSound volume first chosen × LinksWhereSound volume first chosen)
  pub map_free : IsFreeWhereSound volume (taken_beside first backup) map
  pub map_name : LinksWhereSound volume (taken_beside first backup) map
  pub promised : IsTold (past_of volume) → ArePromised (super_view volume.layout) (parts_now volume) (taken_beside first backup)
  pub apart : IsTold (past_of volume) → IfSome backup (λ chosen. AreApartOn volume chosen map)
  pub taken : IsTold (past_of volume) → AreTaken volume backup map

abbrev pub IsRoomFree : {D : Type 0} {disks : Ghosts D} → volumes.Volume D disks → rooms.Taken → Room → Type 0
IsRoomFree volume first room = AreFree volume first room.backup room.map
