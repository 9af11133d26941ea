-- What an installation and `-t` answer and print, as if nothing failed: one list of checks, in order, of which the first
-- refusal decides. They speak of what the disks hold at the entry; the room for the new files is that of the volume once
-- it is settled. (This project's own.)
use Rattle.std.specs.Prelude.{ℕ, ◌+◌, ◌-◌, ◌*◌, ◌/◌, ◌%◌, ◌==◌, nat_le, nat_lt, Bool, true, false, not, ◌&&◌, ◌||◌, if◌then◌else◌, List, [], ◌∷◌, ◌++◌, map}
use Rattle.std.specs.Prelude.{flat_map, length, slice_index, codes, decimal, is_some, unwrap_or, Option, Some, None, Result, Ok, Err}
use Rattle.std.specs.List.{list_any, list_all, range_with_len}
use Rattle.std.specs.Option.{option_to_list}
use Rattle.lilo_model.specs.Checks.{◌>>=◌, require, with_fault}
use Rattle.lilo_model.specs.Disks.{Image, Machine, Span, DiskSector}
use Rattle.lilo_model.specs.Devices.{Device}
use Rattle.lilo_model.specs.Slots.{AddressFault, place_at}
use Rattle.lilo_model.specs.BootSector.{BootSector, MapFault, boot_at}
use Rattle.lilo_model.specs.ConfOptions.{Opt, opt_name}
use Rattle.lilo_model.specs.Conf.{Config, ConfSection, conf_at}
use Rattle.lilo_model.specs.MinixLayout.{Kind, Super, Inode, is_v1, table_start, table_blocks, super_sector}
use Rattle.lilo_model.specs.MinixParts.{Volume, Parts, ZoneFault, parts_of, volume_at, is_directory, is_file, blocks_for}
use Rattle.lilo_model.specs.MinixFind as find
use Rattle.lilo_model.specs.MinixFind.{TreeFault}
use Rattle.lilo_model.specs.MinixNames.{reached, names_in}
use Rattle.lilo_model.specs.MinixWalk.{Visit, visits}
use Rattle.lilo_model.specs.MinixSurvey.{SurveyFault, Met, owner, is_indirect, survey_of}
use Rattle.lilo_model.specs.Mapped.{mapped_sectors}
use Rattle.lilo_model.specs.NamePlaces.{with_tilde}
use Rattle.lilo_model.specs.Apart.{apart_checks}
use Rattle.lilo_model.specs.Settled.{PathRefusal, OwnNames, is_foreign, own_names}
use Rattle.lilo_model.specs.Meant.{default_place}
use Rattle.lilo_model.specs.Plan.{MappedSection, Plan, map_size, plan_names}
use Rattle.lilo_model.specs.Planned.{mapped_section}
use Rattle.lilo_model.specs.PlanRefusal.{PlanFault, plan_at, own_places_check, plan_status, plan_text}
use Rattle.lilo_model.specs.Refusal as refusals
use Rattle.lilo_model.specs.Refusal.{Refusal, refusal_status, refusal_line}
use Rattle.lilo_model.specs.Verdict.{Verdict, name_line}
use Rattle.lilo_model.specs.VolumeSearch.{volume_place}
use Rattle.write_model.specs.Wish as rooms
use Rattle.write_model.specs.Wish.{Wish, Overlooked, Taken}
use Rattle.write_model.specs.Places.{most_size}
use Rattle.write_model.specs.Choice.{left_zones, choose, taken_with}
use Rattle.lilo_model.specs.ConfVerdict.{volume_refusal, path_refusal, file_on, place_at as device_place}

-- ---- refusals

-- why an installation is refused, in the order of its checks
pub data InstallRefusal : Type 0 where
  -- of the volume, the configuration's file or text, or the boot device
  Reading : Refusal → InstallRefusal
  -- the volume isn't sound
  NotSound : SurveyFault → InstallRefusal
  -- a configuration isn't apart
  NotApart : Opt → InstallRefusal
  -- of the path of `map` or of a backup
  BadName : PathRefusal → InstallRefusal
  -- no map is planned
  NoPlan : PlanFault → InstallRefusal
  -- settling's rename needs a link more than an inode may have
  NoLink : InstallRefusal
  -- of the backup or the map
  NoRoom : rooms.Refusal → InstallRefusal

-- the exit status
abbrev pub install_status : InstallRefusal → ℕ
install_status (Reading refusal) = refusal_status refusal
install_status (NotSound fault) = 3
install_status (NotApart which) = 4
install_status (BadName refusal) = 3
install_status (NoPlan fault) = plan_status fault
install_status NoLink = 5
install_status (NoRoom fault) = 5

-- what is printed of the path of a file that is to be replaced
abbrev pub name_refusal_line : List ℕ → TreeFault → List ℕ
name_refusal_line path find.NotFile = codes "lilo: volume: not a file\n"
name_refusal_line path fault = refusal_line (path_refusal path fault)

-- what comes before the reason of a refusal of a plan
abbrev pub plan_kind : ℕ → List ℕ
plan_kind status = if status == 3 then codes "volume: " else codes "address: "

-- what is missing. The last two never come: the names are absent or overlooked, and the volume is sound.
abbrev pub room_text : rooms.Refusal → List ℕ
room_text (rooms.NoSpace need found) = codes "need " ++ decimal need ++ codes ", found " ++ decimal found
room_text rooms.NoInode = codes "no inode"
room_text rooms.NameTooLong = codes "name"
room_text rooms.Exists = []
room_text (rooms.Tree fault) = []

-- what is printed
unfoldable pub install_line : InstallRefusal → List ℕ
install_line (Reading refusal) = refusal_line refusal
install_line (NotSound fault) = codes "lilo: volume: survey\n"
install_line (NotApart which) = codes "lilo: address: " ++ opt_name which ++ codes " is not apart\n"
install_line (BadName refusal) = name_refusal_line refusal.path refusal.fault
install_line (NoPlan fault) = codes "lilo: " ++ plan_kind (plan_status fault) ++ plan_text fault ++ codes "\n"
install_line NoLink = codes "lilo: space: links\n"
install_line (NoRoom fault) = codes "lilo: space: " ++ room_text fault ++ codes "\n"

-- ---- what is read first

-- the volume, the configuration with its boot device, and where that lies
pub record Begun : Type 0 where
  pub volume : Volume
  pub config : Config
  pub boot : Device
  pub span : Span

-- the boot device of a configuration: the volume's, where it names none
abbrev pub boot_device : Config → Device → Device
boot_device config device = unwrap_or config.boot device

-- these, by the device that is named for the volume, and the path of the configuration
unfoldable pub begun_by : Image → Machine → Option Device → List ℕ → Result Begun Refusal
begun_by image machine root path = do
  place ← with_fault volume_refusal (volume_place image machine root)
  text ← file_on image place.span path
  config ← with_fault refusals.Config (conf_at text)
  span ← with_fault refusals.Device (device_place image machine (boot_device config place.device))
  volume ← with_fault (λ fault. refusals.Layout) (volume_at image place.span)
  Ok (record {
    volume = volume;
    config = record config { boot = Some (boot_device config place.device) };
    boot = boot_device config place.device;
    span = span;
  })

-- ---- the present map

-- a place is a sector of a volume's zones
abbrev pub is_of_volume : Volume → DiskSector → Bool
is_of_volume volume place =
    (place.disk == volume.span.disk)
    && nat_le volume.span.start place.sector
    && nat_lt place.sector (volume.span.start + 2 * volume.layout.zones)

-- a zone with an owner is no directory's, and has no numbers of zones
abbrev pub is_plain_owner : Parts → Option ℕ → Bool → Bool
is_plain_owner parts None indirect = true
is_plain_owner parts (Some number) indirect = not (is_directory (parts.node number)) && not indirect

-- a sector of a volume lies outside its tables, and in no zone that leads to others
abbrev pub is_plain_sector : Volume → Parts → List Met → ℕ → Bool
is_plain_sector volume parts met sector =
    (nat_lt sector super_sector || nat_le (2 * (table_start volume.layout + table_blocks volume.layout)) sector)
    && is_plain_owner parts (owner met (sector / 2)) (is_indirect met (sector / 2))

-- so does each sector of a volume that a boot may look at, by what a survey of it met
unfoldable pub is_clear : Volume → Image → List Met → Machine → Span → Bool
is_clear volume image met machine span =
    list_all
    (λ place. not (is_of_volume volume place) || is_plain_sector volume (parts_of volume image) met (place.sector - volume.span.start))
    (mapped_sectors image machine span)

-- a walk over an inode meets a zone
abbrev pub is_visited : ℕ → Result Visit ZoneFault → Bool
is_visited zone (Ok visit) = visit.zone == zone
is_visited zone (Err fault) = false

-- the sector of a slot lies in a zone that it meets
abbrev pub is_in_walk : Volume → List (Result Visit ZoneFault) → Result DiskSector AddressFault → Bool
is_in_walk volume walked (Ok place) =
    is_of_volume volume place && list_any (is_visited ((place.sector - volume.span.start) / 2)) walked
is_in_walk volume walked (Err fault) = false

-- the file of an inode holds the table of a boot sector
abbrev pub holds_table : Image → Machine → Volume → (Inode → List (Result Visit ZoneFault)) → Result BootSector MapFault → Option ℕ → Bool
holds_table image machine volume walk (Ok boot) (Some number) =
    is_file ((parts_of volume image).node number)
    && list_all
    (λ slot. is_in_walk volume (walk ((parts_of volume image).node number)) (place_at machine slot 0))
    boot.table
holds_table image machine volume walk (Ok boot) None = false
holds_table image machine volume walk (Err fault) found = false

-- the inode of a name
abbrev pub inode_of : Image → Volume → List (List ℕ) → Option ℕ
inode_of image volume path = reached volume.layout (parts_of volume image) path

-- the file at a path does
unfoldable pub is_holder : Image → Machine → Volume → (Inode → List (Result Visit ZoneFault)) → Span → List (List ℕ) → Bool
is_holder image machine volume walk span path =
    holds_table image machine volume walk (boot_at (image span.disk span.start)) (inode_of image volume path)

-- settling finishes a rename: `map~` holds the table, and `map` doesn't
abbrev pub is_to_finish : Image → Machine → Volume → (Inode → List (Result Visit ZoneFault)) → Span → List (List ℕ) → Bool
is_to_finish image machine volume walk span path =
    is_holder image machine volume walk span (with_tilde path) && not (is_holder image machine volume walk span path)

-- the most links of an inode
abbrev pub most_links : Kind → ℕ
most_links kind = if is_v1 kind then 255 else 65535

-- an inode may have one link more
abbrev pub has_link_left : Volume → Parts → Option ℕ → Bool
has_link_left volume parts None = true
has_link_left volume parts (Some number) = nat_lt (parts.node number).links (most_links volume.layout.kind)

-- settling may be done: where it finishes a rename over a file, `map~` may have one link more
unfoldable pub may_settle : Image → Machine → Volume → (Inode → List (Result Visit ZoneFault)) → Span → List (List ℕ) → Bool
may_settle image machine volume walk span path =
    not (is_to_finish image machine volume walk span path)
    || not (is_some (inode_of image volume path))
    || has_link_left volume (parts_of volume image) (inode_of image volume (with_tilde path))

-- ---- room

-- a zone holds one of some sectors
abbrev pub is_of_places : Volume → List DiskSector → ℕ → Bool
is_of_places volume places zone =
    list_any
    (λ place. is_of_volume volume place && ((place.sector - volume.span.start) / 2 == zone))
    places

-- what is kept out at first: the zones that a boot of the present map may look at, and names that count as away
abbrev pub taken_first : Volume → List DiskSector → List Overlooked → Taken
taken_first volume places overlooked = record {
  has_zone = is_of_places volume places;
  has_inode = λ number. false;
  promises = [];
  overlooked = overlooked;
}

-- the directory and the name that a path ends with
abbrev pub directory_of : Super → Parts → List (List ℕ) → ℕ
directory_of super parts [] = 1
directory_of super parts (name ∷ directory) = unwrap_or (reached super parts directory) 1

abbrev pub last_name : List (List ℕ) → List ℕ
last_name [] = []
last_name (name ∷ directory) = name

-- the mode of a file that an installation makes
abbrev pub file_mode : ℕ
file_mode = 33188

-- a file of so many bytes at a path
abbrev pub file_wish : Super → Parts → List (List ℕ) → ℕ → ℕ → Wish
file_wish super parts path size time = record {
  mode = file_mode;
  length = size;
  holes = [];
  time = time;
  directory = directory_of super parts path;
  name = last_name path;
}

-- what is taken once the backup is chosen, where one is to be made at a path
abbrev pub taken_after : Super → Parts → Taken → ℕ → Option (List (List ℕ)) → Result Taken rooms.Refusal
taken_after super parts taken time None = Ok taken
taken_after super parts taken time (Some path) =
    choose super parts taken (file_wish super parts path 512 time)
    >>= λ choice. Ok (taken_with taken (directory_of super parts path) choice)

-- where the backup is made: under `force-backup=` with `~`, else where nothing is at its name
abbrev pub made_backup : Super → Parts → Bool → Option (List (List ℕ)) → Option (List (List ℕ))
made_backup super parts forced None = None
made_backup super parts true (Some path) = Some (with_tilde path)
made_backup super parts false (Some path) = if is_some (reached super parts path) then None else Some path

-- where each 512 bytes lie of a file whose blocks have these zones
abbrev pub sectors_of_blocks : Span → List ℕ → ℕ → List DiskSector
sectors_of_blocks span blocks count =
    map
    (λ index. record { disk = span.disk; sector = span.start + (2 * slice_index blocks (index / 2) + index % 2) })
    (range_with_len 0 count)

-- the places of a map of so many sectors, once the backup is chosen
unfoldable pub room_on : Volume → Parts → Taken → ℕ → Option (List (List ℕ)) → List (List ℕ) → ℕ → Result (List DiskSector) rooms.Refusal
room_on volume parts first time backup path sectors = do
  taken ← taken_after volume.layout parts first time backup
  fits ← require (nat_le (512 * sectors) (most_size volume.layout.kind))
      (rooms.NoSpace (blocks_for (512 * sectors)) (length (left_zones volume.layout parts taken.has_zone)))
  choice ← choose volume.layout parts taken (file_wish volume.layout parts (with_tilde path) (512 * sectors) time)
  Ok (sectors_of_blocks volume.span choice.blocks sectors)

-- the names that settling would take away: `map~`, and the stale copy of a forced backup
abbrev pub overlooked_at : Super → Parts → List (List ℕ) → List Overlooked
overlooked_at super parts path =
    record { directory = directory_of super parts (with_tilde path); name = last_name (with_tilde path) } ∷ []

abbrev pub stale_names : Super → Parts → Bool → OwnNames → List Overlooked
stale_names super parts forced names =
    overlooked_at super parts names.map
    ++ (if forced then flat_map (overlooked_at super parts) (option_to_list names.backup) else [])

-- the room on the volume once it is settled, and on the volume as it is
unfoldable pub install_room : Image → Machine → Image → ℕ → Begun → OwnNames → Plan → Result (List DiskSector) rooms.Refusal
install_room image machine settled time begun names plan =
    let parts : Parts = parts_of begun.volume settled in
    room_on begun.volume parts (taken_first begun.volume (mapped_sectors image machine begun.span) []) time
    (made_backup begun.volume.layout parts (is_some begun.config.force_backup) names.backup)
    names.map
    (map_size plan machine)

unfoldable pub test_room : Image → Machine → ℕ → Begun → OwnNames → Plan → Result (List DiskSector) rooms.Refusal
test_room image machine time begun names plan =
    let parts : Parts = parts_of begun.volume image in
    let forced : Bool = is_some begun.config.force_backup in
    room_on begun.volume parts
    (taken_first begun.volume (mapped_sectors image machine begun.span) (stale_names begun.volume.layout parts forced names))
    time
    (made_backup begun.volume.layout parts forced names.backup)
    names.map
    (map_size plan machine)

-- ---- the list of checks

-- what is printed of a plan
pub record Answer : Type 0 where
  -- the paths of the sections that are omitted
  pub skipped : List (List ℕ)
  -- whether the present map is Clear; none where the boot sector is of another system
  pub clear : Option Bool
  pub names : List (List ℕ)
  pub default : ℕ

-- the path of a section, where it is omitted
abbrev pub skipped_path : ConfSection → List MappedSection → List (List ℕ)
skipped_path section [] = section.path ∷ []
skipped_path section (mapped ∷ others) = []

-- the answer for a plan
unfoldable pub answer_of : Image → Machine → Begun → List Met → Plan → Answer
answer_of image machine begun met plan = record {
  skipped = flat_map (λ section. skipped_path section (mapped_section image machine begun.volume section)) begun.config.sections;
  clear =
      if is_foreign (image begun.span.disk begun.span.start)
      then None
      else Some (is_clear begun.volume image met machine begun.span);
  names = plan_names plan;
  default = default_place begun.config.default_name (plan_names plan);
}

-- The checks from the survey on, by what a walk over an inode meets, and by the room that there is for what is planned
unfoldable pub install_checks : Image → Machine → (Inode → List (Result Visit ZoneFault))
    → (OwnNames → Plan → Result (List DiskSector) rooms.Refusal) → ℕ → Begun → Result Answer InstallRefusal
install_checks image machine walk room time begun = do
  met ← with_fault NotSound (survey_of (record { super = begun.volume.layout; parts = parts_of begun.volume image; walk = walk }))
  a ← with_fault NotApart (apart_checks image machine begun.volume begun.config begun.boot)
  names ← with_fault BadName (own_names (names_in begun.volume image) begun.config begun.boot (is_foreign (image begun.span.disk begun.span.start)))
  b ← require (may_settle image machine begun.volume walk begun.span names.map) NoLink
  plan ← with_fault NoPlan (plan_at image machine begun.volume begun.span begun.config time)
  places ← with_fault NoRoom (room names plan)
  c ← with_fault NoPlan (own_places_check begun.config machine places)
  Ok (answer_of image machine begun met plan)

-- the answer of an installation, or of `-t`, by the room for what is planned
unfoldable pub install_answer : Image → Machine → Option Device → List ℕ
    → (Begun → OwnNames → Plan → Result (List DiskSector) rooms.Refusal) → ℕ → Result Answer InstallRefusal
install_answer image machine root path room time = do
  begun ← with_fault Reading (begun_by image machine root path)
  install_checks image machine (visits begun.volume.layout (parts_of begun.volume image)) (room begun) time begun

-- ---- what is printed

-- the lines of the names from a place on
abbrev pub added_lines : ℕ → ℕ → List (List ℕ) → List ℕ
added_lines default place [] = []
added_lines default place (name ∷ names) =
    codes "Added " ++ name_line (place == default) name ++ added_lines default (place + 1) names

-- the warning where the present map isn't Clear
abbrev pub warning_line : Option Bool → List ℕ
warning_line None = []
warning_line (Some true) = []
warning_line (Some false) = codes "Warning: the old map isn't clear.\n"

-- the sections that are omitted, the warning, and the names
unfoldable pub answer_text : Answer → List ℕ
answer_text answer =
    flat_map (λ path. codes "Skipping " ++ path ++ codes "\n") answer.skipped
    ++ (warning_line answer.clear ++ added_lines answer.default 0 answer.names)

-- what `-t` prints of the present map
abbrev pub clear_line : Option Bool → List ℕ
clear_line None = []
clear_line (Some true) = codes "Old map is clear.\n"
clear_line (Some false) = codes "Old map isn't clear.\n"

unfoldable pub test_text : Answer → List ℕ
test_text answer = answer_text answer ++ (clear_line answer.clear ++ codes "No changes were made.\n")

-- the verdict by an answer, and the text that it gives
abbrev pub verdict_by : (Answer → List ℕ) → Result Answer InstallRefusal → Verdict
verdict_by text (Ok answer) = record { status = 0; text = text answer }
verdict_by text (Err refusal) = record { status = install_status refusal; text = install_line refusal }

-- the verdict of an installation, by the image that its settling leaves
unfoldable pub install_verdict : Image → Machine → Option Device → List ℕ → Image → ℕ → Verdict
install_verdict image machine root path settled time =
    verdict_by answer_text (install_answer image machine root path (install_room image machine settled time) time)

-- and that of `-t`
unfoldable pub test_verdict : Image → Machine → Option Device → List ℕ → ℕ → Verdict
test_verdict image machine root path time =
    verdict_by test_text (install_answer image machine root path (test_room image machine time) time)
