-- What an installation plans, by the first of the model's checks (this project's own).
use Rattle.std.specs.Prelude.{◌≡◌, ℕ, Bool, true, false, not, is_some, List, length, All, Option, None, Some, Result, Ok, Err}
use Rattle.disk_trait.specs.declared.disks.Disks.{Ghosts}
use Rattle.disk_trait.specs.Moments.{IsTold, now}
use Rattle.lilo_model.specs.Checks.{◌>>=◌, with_fault}
use Rattle.lilo_model.specs.Conf.{Config}
use Rattle.lilo_model.specs.Devices.{Device}
use Rattle.lilo_model.specs.Disks.{Image, Machine, Span, DiskSector}
use Rattle.lilo_model.specs.MinixLayout.{Super}
use Rattle.lilo_model.specs.MinixParts.{Parts, Volume, parts_of}
use Rattle.lilo_model.specs.NamePlaces.{with_tilde}
use Rattle.lilo_model.specs.Plan.{Plan, map_size}
use Rattle.lilo_model.specs.PlanRefusal.{plan_at, own_places_check}
use Rattle.lilo_model.specs.Settled as model
use Rattle.lilo_conf.specs.View.{config_view}
use Rattle.map_plan.specs.Skipped.{skipped_paths}
use Rattle.map_sectors.specs.Accepted.{IsFor}
use Rattle.map_sectors.specs.Map.{plan_view}
use Rattle.map_sectors.specs.Places.{AreOwnPlaces}
use Rattle.map_sectors.specs.declared.map.MapPlan.{MapPlan}
use Rattle.mbr_table.specs.View.{device_view}
use Rattle.minix_names.specs.Places.{IsPlace}
use Rattle.minix_zones.specs.View.{span_view}
use Rattle.minix_zones.specs.Volume.{volume_view, past_of}
use Rattle.minix_zones.specs.declared.volume.Volume as volumes
use Rattle.sector_address.specs.Machine.{machine_of}
use Rattle.write_model.specs.Wish as rooms
use Rattle.install_apart.specs.Apart.{device_checks}
use Rattle.install_apart.specs.declared.name.NamePair.{NamePair}
use Rattle.install_apart.specs.declared.own.OwnNames.{OwnNames}
use Rattle.install_laws.specs.InstallVerdict.{Begun, InstallRefusal, NoPlan, NoRoom, NotApart}
use Rattle.install_room.specs.Names.{AreNamesOf}
use Rattle.install_room.specs.Room.{KeepsOut, room_for, places_view}
use Rattle.install_room.specs.declared.room.Room.{Room}
use Rattle.install_room.specs.declared.room.RoomWish.{RoomWish}
use Rattle.install_order.specs.Answers.{begun_in}
use Rattle.install_order.specs.Begins.{AreOwn, IsSurveyed}
use Rattle.install_order.specs.Faults.{Refuses}
use Rattle.install_order.specs.declared.examination.Examined.{Examined}
use Rattle.install_order.specs.declared.fault.InstallFault.{InstallFault}
use Rattle.install_order.specs.declared.halt.Halt.{Halt}
use Rattle.install_order.specs.declared.planned.Planned.{Planned}
use Rattle.install_order.specs.declared.planning.Choices.{Choices}
use Rattle.install_order.specs.declared.surveyed.Surveyed.{Surveyed}

-- ---- the model's

-- what is wished for a plan
abbrev pub wish_of : Machine → Config → Bool → ℕ → Plan → RoomWish
wish_of machine config unsettled time plan = record {
  forced = is_some config.force_backup;
  unsettled = unsettled;
  sectors = map_size plan machine;
  time = time;
}

-- the checks of a map and its room, where a boot of the present map may look at some places
unfoldable pub map_checks : Image → Machine → Volume → Config → Span → List DiskSector → model.OwnNames → Bool → ℕ → Result (List DiskSector) InstallRefusal
map_checks image machine volume config span places names unsettled time = do
  plan ← with_fault NoPlan (plan_at image machine volume span config time)
  room ← with_fault NoRoom (room_for volume (parts_of volume image) places names (wish_of machine config unsettled time plan))
  c ← with_fault NoPlan (own_places_check config machine room)
  Ok room

-- Once names are settled, the devices of a configuration are apart still: a table by which one of them is found may lie in a sector of the
-- volume that settling wrote.
abbrev pub devices_again : Bool → Image → Machine → Volume → Config → Device → Result (Unit {0}) InstallRefusal
devices_again true image machine volume config boot = Ok tt
devices_again false image machine volume config boot = with_fault NotApart (device_checks image machine volume config boot)

-- the checks of an installation from there on
unfoldable pub plan_checks : Image → Machine → Volume → Config → Device → Span → List DiskSector → model.OwnNames → Bool → ℕ
    → Result (List DiskSector) InstallRefusal
plan_checks image machine volume config boot span places names unsettled time = do
  a ← devices_again unsettled image machine volume config boot
  map_checks image machine volume config span places names unsettled time

-- a boot may look at these places, and these are the names, as they were found
pub record IsAsFound (image : Image) (volume : Volume) (places : List DiskSector) (names : model.OwnNames) (found : Examined) : Type 0 where
  pub keeps : KeepsOut volume places found.old
  pub are : AreNamesOf volume.layout (parts_of volume image) names found.own

-- ---- on the way there

-- the map
pub record IsMap (image : Image) (machine : Machine) (volume : Volume) (config : Config) (span : Span) (time : ℕ) (plan : MapPlan) : Type 0 where
  pub is : plan_at image machine volume span config time ≡ Ok (plan_view plan)
  pub accepted : IsFor machine plan
  pub skipped : plan.files.skipped ≡ skipped_paths image machine volume config.sections

abbrev pub GivesMap : Image → Machine → Volume → Config → Span → ℕ → Result MapPlan InstallFault → Type 0
GivesMap image machine volume config span time (Ok plan) = IsMap image machine volume config span time plan
GivesMap image machine volume config span time (Err fault) = Refuses fault (with_fault NoPlan (plan_at image machine volume span config time))

-- the room
abbrev pub GivesRoomOf : Result (List DiskSector) rooms.Refusal → Result Room InstallFault → Type 0
GivesRoomOf given (Ok room) = given ≡ Ok (places_view room)
GivesRoomOf given (Err fault) = Refuses fault (with_fault NoRoom given)

abbrev pub GivesRoom : Image → Volume → Examined → RoomWish → Result Room InstallFault → Type 0
GivesRoom image volume found wish result =
    (names : model.OwnNames) (places : List DiskSector) → IsAsFound image volume places names found
    → GivesRoomOf (room_for volume (parts_of volume image) places names wish) result

-- a check of its places
abbrev pub GivesChecked : Result (Unit {0}) InstallFault → Result (Unit {0}) Rattle.lilo_model.specs.PlanRefusal.PlanFault → Type 0
GivesChecked (Ok done) given = given ≡ Ok tt
GivesChecked (Err fault) given = Refuses fault (with_fault NoPlan given)

-- both
pub record ArePlaces (machine : Machine) (config : Config) (given : Result (List DiskSector) rooms.Refusal) (room : Room) : Type 0 where
  pub is : given ≡ Ok (places_view room)
  pub check : own_places_check config machine (places_view room) ≡ Ok tt

abbrev pub GivesPlacesOf : Machine → Config → Result (List DiskSector) rooms.Refusal → Result Room InstallFault → Type 0
GivesPlacesOf machine config given (Ok room) = ArePlaces machine config given room
GivesPlacesOf machine config given (Err fault) =
    Refuses fault (with_fault NoRoom given >>= λ room. with_fault NoPlan (own_places_check config machine room))

abbrev pub GivesPlaces : Image → Machine → Volume → Config → Examined → RoomWish → Result Room InstallFault → Type 0
GivesPlaces image machine volume config found wish result =
    (names : model.OwnNames) (places : List DiskSector) → IsAsFound image volume places names found
    → GivesPlacesOf machine config (room_for volume (parts_of volume image) places names wish) result

-- the sectors of a map lie on the disk of its plan, each in a place of its own
pub record IsOfPlan (plan : MapPlan) (sectors : ℕ) (room : Room) : Type 0 where
  pub disk : All (λ place. place.disk ≡ plan.disk) room.places.items
  pub count : length room.places.items ≡ sectors

-- ---- the whole

-- the map, its room and the boot sector as it is
pub record AreChosen (image : Image) (machine : Machine) (volume : Volume) (config : Config) (span : Span) (time : ℕ) (settled : Bool)
    (found : Examined) (choices : Choices) : Type 0 where
  pub map : IsMap image machine volume config span time choices.plan
  pub own : AreOwnPlaces machine choices.plan choices.room.places.items
  pub places : (names : model.OwnNames) (places : List DiskSector) → IsAsFound image volume places names found
      → ArePlaces machine config (room_for volume (parts_of volume image) places names
      (wish_of machine config (not settled) time (plan_view choices.plan))) choices.room
  pub present : choices.present ≡ image span.disk span.start

abbrev pub RefusesMap : Image → Machine → Volume → Config → Span → ℕ → Bool → Examined → InstallFault → Type 0
RefusesMap image machine volume config span time settled found fault =
    (names : model.OwnNames) (places : List DiskSector) → IsAsFound image volume places names found
    → Refuses fault (map_checks image machine volume config span places names (not settled) time)

abbrev pub GivesChoices : Image → Machine → Volume → Config → Span → ℕ → Bool → Examined → Result Choices InstallFault → Type 0
GivesChoices image machine volume config span time settled found (Ok choices) = AreChosen image machine volume config span time settled found choices
GivesChoices image machine volume config span time settled found (Err fault) = RefusesMap image machine volume config span time settled found fault

-- so it is chosen where the devices are apart still
pub record AreChosenApart (image : Image) (machine : Machine) (volume : Volume) (config : Config) (boot : Device) (span : Span) (time : ℕ)
    (settled : Bool) (found : Examined) (choices : Choices) : Type 0 where
  pub devices : devices_again (not settled) image machine volume config boot ≡ Ok tt
  pub chosen : AreChosen image machine volume config span time settled found choices

abbrev pub RefusesChecks : Image → Machine → Volume → Config → Device → Span → ℕ → Bool → Examined → InstallFault → Type 0
RefusesChecks image machine volume config boot span time settled found fault =
    (names : model.OwnNames) (places : List DiskSector) → IsAsFound image volume places names found
    → Refuses fault (plan_checks image machine volume config boot span places names (not settled) time)

abbrev pub GivesApartChoices : Image → Machine → Volume → Config → Device → Span → ℕ → Bool → Examined → Result Choices InstallFault → Type 0
GivesApartChoices image machine volume config boot span time settled found (Ok choices) =
    AreChosenApart image machine volume config boot span time settled found choices
GivesApartChoices image machine volume config boot span time settled found (Err fault) =
    RefusesChecks image machine volume config boot span time settled found fault

-- the devices are apart still, or the first that isn't refuses it
abbrev pub GivesAgain : Image → Machine → Volume → Config → Device → Bool → Result (Unit {0}) InstallFault → Type 0
GivesAgain image machine volume config boot settled (Ok done) = devices_again (not settled) image machine volume config boot ≡ Ok tt
GivesAgain image machine volume config boot settled (Err fault) = Refuses fault (devices_again (not settled) image machine volume config boot)

-- so for what was surveyed
pub record IsPlanned {D : Type 0} {disks : Ghosts D} (image : Image) (machine : Machine) (surveyed : Surveyed D disks)
    (planned : Planned D disks) : Type 0 where
  pub devices : devices_again (not surveyed.settled) image machine (volume_view surveyed.volume) (config_view surveyed.config)
      (device_view surveyed.device) ≡ Ok tt
  pub chosen : AreChosen image machine (volume_view surveyed.volume) (config_view surveyed.config)
      (span_view surveyed.boot) surveyed.time surveyed.settled surveyed.found
      (record { plan = planned.plan; room = planned.room; present = planned.present })

abbrev pub GivesPlanned : {D : Type 0} {disks : Ghosts D} → Image → Machine → Surveyed D disks → Result (Planned D disks) (Halt D disks) → Type 0
GivesPlanned image machine surveyed (Ok planned) = IsPlanned image machine surveyed planned
GivesPlanned image machine surveyed (Err halt) =
    RefusesChecks image machine (volume_view surveyed.volume) (config_view surveyed.config) (device_view surveyed.device)
    (span_view surveyed.boot) surveyed.time surveyed.settled surveyed.found halt.fault

-- the volume that is held, or handed back
abbrev pub planned_volume : {D : Type 0} {disks : Ghosts D} → Result (Planned D disks) (Halt D disks) → volumes.Volume D disks
planned_volume (Ok planned) = planned.volume
planned_volume (Err halt) = halt.volume

-- it is for what was surveyed: its configuration, its boot device, its time and its names
pub record IsPlannedFor {D : Type 0} {disks : Ghosts D} (surveyed : Surveyed D disks) (planned : Planned D disks) : Type 0 where
  pub config_is : planned.plan.config ≡ surveyed.config
  pub device_is : planned.device ≡ surveyed.device
  pub boot_is : planned.boot ≡ surveyed.boot
  pub time_is : planned.time ≡ surveyed.time
  pub own_is : planned.own ≡ surveyed.found.own
  pub settled_is : planned.settled ≡ surveyed.settled

-- ---- for the names that were surveyed

-- these are the names that are replaced, and places that lie in the zones that the present map keeps out, as the disks were when
-- they were surveyed
pub record AreSurveyed {D : Type 0} {disks : Ghosts D} (image : Image) (machine : Machine) (surveyed : Surveyed D disks) (names : model.OwnNames)
    (places : List DiskSector) : Type 0 where
  pub survey : IsSurveyed image machine (begun_in surveyed) surveyed.found surveyed.settled
  pub own : AreOwn survey.entry (begun_in surveyed) names
  pub keeps : KeepsOut (volume_view surveyed.volume) places surveyed.found.old

-- the names that are replaced and such places, by what disks held before, are those of what was surveyed
abbrev pub Surveys : {D : Type 0} {disks : Ghosts D} → volumes.Volume D disks → Begun → Surveyed D disks → Type 0
Surveys {D} {disks} old begun surveyed =
    IsTold (past_of old) → (names : model.OwnNames) (places : List DiskSector) → AreOwn (now (past_of old)) begun names
    → KeepsOut begun.volume places surveyed.found.old
    → AreSurveyed (now (past_of surveyed.volume)) (machine_of disks surveyed.volume.disks.now) surveyed names places

-- the names of a pair are each in the directory to which its path leads
pub record IsPairPlaced (super : Super) (parts : Parts) (path : List (List ℕ)) (pair : NamePair) : Type 0 where
  pub plain : IsPlace super parts path pair.plain.directory pair.plain.name
  pub tilde : IsPlace super parts (with_tilde path) pair.tilde.directory pair.tilde.name

abbrev pub IsBackupPlaced : Super → Parts → Option (List (List ℕ)) → Option NamePair → Type 0
IsBackupPlaced super parts None None = Unit {0}
IsBackupPlaced super parts None (Some pair) = ⊥
IsBackupPlaced super parts (Some path) None = ⊥
IsBackupPlaced super parts (Some path) (Some pair) = IsPairPlaced super parts path pair

pub record ArePlaced (super : Super) (parts : Parts) (names : model.OwnNames) (own : OwnNames) : Type 0 where
  pub map : IsPairPlaced super parts names.map own.map
  pub backup : IsBackupPlaced super parts names.backup own.backup

-- the model's checks of what was surveyed
abbrev pub checks_of : {D : Type 0} {disks : Ghosts D} → Image → Machine → Surveyed D disks → model.OwnNames → List DiskSector
    → Result (List DiskSector) InstallRefusal
checks_of image machine surveyed names places =
    plan_checks image machine (volume_view surveyed.volume) (config_view surveyed.config) (device_view surveyed.device)
    (span_view surveyed.boot) places names (not surveyed.settled) surveyed.time

-- they pass: the plan and the places of its room are the model's, and each name is in its directory still
pub record IsPlanOf {D : Type 0} {disks : Ghosts D} (image : Image) (machine : Machine) (surveyed : Surveyed D disks) (names : model.OwnNames)
    (places : List DiskSector) (planned : Planned D disks) : Type 0 where
  pub map : plan_at image machine (volume_view surveyed.volume) (span_view surveyed.boot) (config_view surveyed.config) surveyed.time
      ≡ Ok (plan_view planned.plan)
  pub room : room_for (volume_view surveyed.volume) (parts_of (volume_view surveyed.volume) image) places names
      (wish_of machine (config_view surveyed.config) (not surveyed.settled) surveyed.time (plan_view planned.plan)) ≡ Ok (places_view planned.room)
  pub passes : checks_of image machine surveyed names places ≡ Ok (places_view planned.room)
  pub placed : ArePlaced (volume_view surveyed.volume).layout (parts_of (volume_view surveyed.volume) image) names planned.own

-- or the first refusal of them
abbrev pub GivesPlanOf : {D : Type 0} {disks : Ghosts D} → Image → Machine → Surveyed D disks → model.OwnNames → List DiskSector
    → Result (Planned D disks) (Halt D disks) → Type 0
GivesPlanOf image machine surveyed names places (Ok planned) = IsPlanOf image machine surveyed names places planned
GivesPlanOf image machine surveyed names places (Err halt) = Refuses halt.fault (checks_of image machine surveyed names places)
