-- What is staged where files were made of what was planned (a rule of this project's own).
use Rattle.std.specs.Prelude.{◌≡◌, ◌≢◌, ℕ, Bool, true, List, length, map, Option, None, Some, Ok}
use Rattle.disk_trait.specs.declared.disks.Disks.{Ghosts}
use Rattle.disk_trait.specs.Moments.{IsTold, now}
use Rattle.disk_trait.specs.Past.{Past}
use Rattle.install_laws.specs.Writes.{IsApartSector, WritesOnly}
use Rattle.install_stage.specs.Within.{is_chosen}
use Rattle.install_room.specs.Room.{places_view}
use Rattle.install_room.specs.declared.room.Room.{Room}
use Rattle.install_stage_laws.specs.Mapped.{KeepsMapped, OnMapped}
use Rattle.install_stage_laws.specs.Committed.{IsStaged}
use Rattle.install_stage_laws.specs.Devices.{AreDevicesApart}
use Rattle.install_stage_laws.specs.Staged.{AreFree, IsNewBoot}
use Rattle.lilo_model.specs.Conf.{Config}
use Rattle.lilo_model.specs.Devices.{Device}
use Rattle.lilo_model.specs.Disks.{Image, Machine, Span, bytes_at}
use Rattle.lilo_model.specs.Disks as model
use Rattle.lilo_model.specs.MinixNames.{IsSound, reached}
use Rattle.lilo_model.specs.MinixParts as volumes
use Rattle.lilo_model.specs.MinixParts.{parts_of}
use Rattle.lilo_model.specs.NamePlaces.{with_tilde}
use Rattle.lilo_model.specs.Planned.{planned}
use Rattle.map_laws.specs.Accepted.{IsInside, IsAccepted}
use Rattle.map_laws.specs.Lies.{MapPlaces, all_places}
use Rattle.map_sectors.specs.Map.{plan_view}
use Rattle.map_sectors.specs.declared.map.MapPlan.{MapPlan}
use Rattle.minix_create.specs.declared.chosen.Chosen.{Chosen}
use Rattle.minix_zones.specs.Volume.{volume_view, past_of}
use Rattle.minix_zones.specs.declared.volume.Volume.{Volume}
use Rattle.slot_lists.specs.Made.{place_view}
use Rattle.slot_lists.specs.declared.slots.DiskSector.{DiskSector}
use Rattle.install_stage.specs.MapFile.{MakesMap}
use Rattle.install_stage.specs.Stages.{room_zones, StagesRoom}

-- In an image a plan is what a configuration plans, and its checks accepted it with these places. The chosen zones are free.
pub record IsAcceptedPlan (image : Image) (machine : Machine) (volume : volumes.Volume) (span : Span) (config : Config) (device : Device) (time : ℕ)
    (zones : ℕ → Bool) (plan : MapPlan) (places : List model.DiskSector) : Type 0 where
  pub sound : IsSound volume image
  pub apart : AreDevicesApart image machine volume config device
  pub outside : IsApartSector volume span.disk span.start
  pub whole : (place : model.DiskSector) → IsInside machine place → length (bytes_at image place) ≡ 512
  pub plan_is : plan_view plan ≡ planned image machine volume config time
  pub accepted : IsAccepted image machine volume span config time places
  pub free : AreFree volume image zones

-- ---- a map that was made

-- So it was on disks as they were begun with. Since then nothing was written but what a writer of files may, with zones of which the
-- map's are some; and before the map was made, the files that are mapped were there still.
pub record WasPlanned {D : Type 0} {disks : Ghosts D} (begun : Option Past) (start new : Volume D disks) (machine : Machine) (span : Span)
    (config : Config) (device : Device) (time : ℕ) (zones : ℕ → Bool) (chosen : Chosen) (plan : MapPlan)
    (places : List model.DiskSector) : Type 0 where
  pub told : IsTold (past_of start)
  pub planned : IsAcceptedPlan (now begun) machine (volume_view start) span config device time zones plan places
  -- since then
  pub writes : WritesOnly (volume_view start) zones begun (past_of new)
  pub own : (zone : ℕ) → is_chosen chosen zone ≡ true → zones zone ≡ true
  pub files : KeepsMapped (volume_view start) config (now begun) (now (past_of start))

-- once it is made, all is staged for the boot sector that was planned
abbrev pub StagedLaw : {D : Type 0} {disks : Ghosts D} → Volume D disks → Volume D disks → Chosen → MapPlan → List DiskSector → Type 0
StagedLaw start new chosen plan places =
    (begun : Option Past) (machine : Machine) (span : Span) (config : Config) (device : Device) (time : ℕ) (zones : ℕ → Bool)
    (map_places : MapPlaces) (bytes : List ℕ) (path : List (List ℕ))
    → map place_view places ≡ all_places map_places
    → WasPlanned begun start new machine span config device time zones chosen plan (all_places map_places)
    → IsNewBoot (now begun) machine (volume_view start) span config time (all_places map_places) bytes
    → MakesMap start new machine path chosen plan places (Ok tt)
    → IsStaged (now begun) (now (past_of new)) machine (volume_view start) span config device time zones map_places bytes path

-- ---- files that were staged

-- no file that is mapped is at the path of a backup that is made
abbrev pub AreNotReplaced : Image → volumes.Volume → Config → Option (List (List ℕ)) → Type 0
AreNotReplaced image volume config None = Unit {0}
AreNotReplaced image volume config (Some path) =
    OnMapped image volume config (λ number. reached volume.layout (parts_of volume image) path ≢ Some number)

-- all is staged, and the map's file is at the path of `map` with `~`
pub record IsStagedRoom (before staged : Image) (machine : Machine) (volume : volumes.Volume) (span : Span) (config : Config) (device : Device)
    (time : ℕ) (zones : ℕ → Bool) (map_places : MapPlaces) (bytes : List ℕ) (path : List (List ℕ)) : Type 0 where
  pub is : IsStaged before staged machine volume span config device time zones map_places bytes path
  pub leads : reached volume.layout (parts_of volume staged) (with_tilde path) ≡ Some is.holds.holder

-- so it is once both files are there, of a plan that was accepted before them
abbrev pub RoomStagedLaw : {D : Type 0} {disks : Ghosts D} → Volume D disks → Volume D disks → MapPlan → Room → Type 0
RoomStagedLaw start new plan room =
    (machine : Machine) (span : Span) (config : Config) (device : Device) (time : ℕ)
    (map_places : MapPlaces) (bytes present : List ℕ)
    (forced : Bool) (backup : Option (List (List ℕ))) (path : List (List ℕ))
    → IsTold (past_of start)
    → places_view room ≡ all_places map_places
    → IsAcceptedPlan (now (past_of start)) machine (volume_view start) span config device time (room_zones room) plan (all_places map_places)
    → AreNotReplaced (now (past_of start)) (volume_view start) config backup
    → IsNewBoot (now (past_of start)) machine (volume_view start) span config time (all_places map_places) bytes
    → StagesRoom start new machine forced backup present path plan room (Ok tt)
    → IsStagedRoom (now (past_of start)) (now (past_of new)) machine (volume_view start) span config device time (room_zones room) map_places
    bytes path
