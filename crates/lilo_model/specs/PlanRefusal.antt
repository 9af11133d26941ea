-- Why no map is planned: one list of checks in order, of which the first refusal decides. They speak of a sound volume
-- and of a configuration that may be carried out. (The rules are this project's own; a kernel's header: Linux/x86 boot
-- protocol; a boot sector's signature: IBM PC.)
use Rattle.std.specs.Prelude.{ℕ, ◌==◌, nat_le, Bool, true, not, ◌&&◌, if◌then◌else◌, List, [], ◌∷◌, ◌++◌, codes, decimal, is_some, unwrap_or, Option, Some}
use Rattle.std.specs.Prelude.{None, Result, Ok, Err}
use Rattle.lilo_model.specs.Checks.{◌>>=◌, require, with_fault}
use Rattle.lilo_model.specs.Disks.{Image, Geometry, Machine, Span, DiskSector, bytes_at}
use Rattle.lilo_model.specs.Devices.{Device}
use Rattle.lilo_model.specs.Partitions.{TableFault, device_fault, span_of}
use Rattle.lilo_model.specs.Refusal.{device_text}
use Rattle.lilo_model.specs.BootSector.{is_bootable}
use Rattle.lilo_model.specs.Slots as slots
use Rattle.lilo_model.specs.Slots.{AddressFault, Slot, slot_make}
use Rattle.lilo_model.specs.Header.{SetupFault}
use Rattle.lilo_model.specs.Place.{command_line, kernel_fit}
use Rattle.lilo_model.specs.ConfOptions as options
use Rattle.lilo_model.specs.ConfOptions.{Opt, opt_name}
use Rattle.lilo_model.specs.Conf.{Config, ConfSection, DiskSection, has_name}
use Rattle.lilo_model.specs.ConfLawful.{names_of_section}
use Rattle.lilo_model.specs.MinixParts.{Volume, Parts, parts_of, is_file}
use Rattle.lilo_model.specs.MinixNames.{names_in}
use Rattle.lilo_model.specs.MinixFind as trees
use Rattle.lilo_model.specs.MinixFind.{TreeFault, find}
use Rattle.lilo_model.specs.MinixFindNames.{Names}
use Rattle.lilo_model.specs.Meant.{file_of, filled_file, middle_text}
use Rattle.lilo_model.specs.Plan.{MappedFile, MappedSection, Plan, plan_names, slots_for}
use Rattle.lilo_model.specs.Planned.{planned}

-- why no map is planned
pub data PlanFault : Type 0 where
  -- a file that is named isn't there, or the default is a name of a section that is omitted
  Missing : (text : List ℕ) → PlanFault
  -- every section is omitted
  NoImagesLeft : PlanFault
  -- a kernel, its initrd or its command line
  Header : (path : List ℕ) (fault : SetupFault) → PlanFault
  -- no slot names a sector
  Address : (option : Opt) (fault : AddressFault) → PlanFault
  -- a file takes so many slots
  TooManySlots : (option : Opt) (slots : ℕ) → PlanFault
  -- what a configuration says of a disk isn't so: it has this many
  GeometryDiffers : (option : Opt) (have : ℕ) → PlanFault
  -- the first sector of another system is the boot sector
  OtherIsBoot : (path : List ℕ) → PlanFault
  -- and one that a BIOS doesn't take for a boot sector
  NoSignature : (path : List ℕ) → PlanFault
  -- the message has so many bytes
  MessageTooLong : (size : ℕ) → PlanFault
  -- a device isn't found
  Table : (fault : TableFault) → PlanFault
  -- a path can't be followed, or leads to no regular file
  Tree : (path : List ℕ) (fault : TreeFault) → PlanFault

-- a check at each of some values, in order
abbrev pub each_passes : {A F : Type 0} → (A → Result (Unit {0}) F) → List A → Result (Unit {0}) F
each_passes check [] = Ok tt
each_passes check (value ∷ values) = check value >>= λ a. each_passes check values

-- a check of what may be absent
abbrev pub if_there : {A F : Type 0} → (A → Result (Unit {0}) F) → Option A → Result (Unit {0}) F
if_there check None = Ok tt
if_there check (Some value) = check value

-- ---- files and devices

-- how a path's refusal is reported
abbrev pub path_fault : List ℕ → TreeFault → PlanFault
path_fault path (trees.NotFound position) = Missing path
path_fault path fault = Tree path fault

-- a path leads to a regular file
abbrev pub file_check : Volume → Parts → List ℕ → Result (Unit {0}) PlanFault
file_check volume parts path = do
  number ← with_fault (path_fault path) (find volume.layout parts path)
  require (is_file (parts.node number)) (Tree path trees.NotFile)

-- a device has a place
abbrev pub device_check : Image → Machine → Device → Result (Unit {0}) PlanFault
device_check image machine device = with_fault Table (span_of image machine device) >>= λ span. Ok tt

-- what is checked after a kernel's file: its initrd, unless the section may be omitted and the file isn't there
abbrev pub kernel_then : Bool → Result (Unit {0}) PlanFault → Result (Unit {0}) PlanFault → Result (Unit {0}) PlanFault
kernel_then optional (Ok there) initrd = initrd
kernel_then true (Err (Missing path)) initrd = Ok tt
kernel_then optional (Err fault) initrd = Err fault

-- the files of a section, or its devices
abbrev pub section_check : Image → Machine → Volume → ConfSection → Option Device → Result (Unit {0}) PlanFault
section_check image machine volume section (Some device) =
    device_check image machine device >>= λ a. if_there (device_check image machine) section.table
section_check image machine volume section None =
    kernel_then
    section.optional
    (file_check volume (parts_of volume image) section.path)
    (if_there (file_check volume (parts_of volume image)) section.initrd)

-- a default is a name of a section that isn't omitted
abbrev pub default_check : Plan → Result (Unit {0}) PlanFault
default_check plan =
    if_there (λ name. require (has_name name (plan_names plan)) (Missing name)) plan.config.default_name

-- a section is left
abbrev pub left_check : List MappedSection → Result (Unit {0}) PlanFault
left_check [] = Err NoImagesLeft
left_check (mapped ∷ others) = Ok tt

-- files and devices in order, then the default, then that a section is left
unfoldable pub file_checks : Image → Machine → Volume → Plan → Result (Unit {0}) PlanFault
file_checks image machine volume plan = do
  a ← if_there (file_check volume (parts_of volume image)) plan.config.install
  b ← if_there (file_check volume (parts_of volume image)) plan.config.message
  c ← each_passes (λ section. section_check image machine volume section section.other) plan.config.sections
  d ← default_check plan
  left_check plan.sections

-- ---- what they hold

-- a number that is stated is the one that there is
abbrev pub is_stated_right : Option ℕ → ℕ → Bool
is_stated_right None have = true
is_stated_right (Some stated) have = stated == have

-- what is stated of a disk is so
abbrev pub geometry_check : DiskSection → Geometry → Result (Unit {0}) PlanFault
geometry_check disk geometry = do
  a ← require (is_stated_right disk.sectors geometry.sectors) (GeometryDiffers options.Sectors geometry.sectors)
  require (is_stated_right disk.heads geometry.heads) (GeometryDiffers options.Heads geometry.heads)

-- the same by the disk's geometry
abbrev pub disk_check : Machine → DiskSection → Result (Unit {0}) PlanFault
disk_check machine disk = geometry_check disk (machine.geometry_of disk.device.disk)

-- the most bytes of a message
abbrev pub message_limit : ℕ
message_limit = 65535

-- a message isn't too long
abbrev pub message_check : MappedFile → Result (Unit {0}) PlanFault
message_check file = require (nat_le file.size message_limit) (MessageTooLong file.size)

-- the first sector of another system: it isn't that of the boot device, and a BIOS takes it for a boot sector
abbrev pub system_check : Image → Span → List ℕ → List (Option DiskSector) → Result (Unit {0}) PlanFault
system_check image boot path [] = Ok tt
system_check image boot path (None ∷ places) = Ok tt
system_check image boot path (Some place ∷ places) = do
  a ← require (not ((place.disk == boot.disk) && (place.sector == boot.start))) (OtherIsBoot path)
  require (is_bootable (bytes_at image place)) (NoSignature path)

-- a kernel with its initrd takes the command line of an automatic choice of a name
abbrev pub name_check : ConfSection → List ℕ → Option (List ℕ) → List ℕ → Result (Unit {0}) PlanFault
name_check section kernel initrd name =
    with_fault (Header section.path) (kernel_fit kernel initrd (command_line true name (middle_text section) []))

-- so for each name of its section
abbrev pub kernel_check : Names → ConfSection → Result (Unit {0}) PlanFault
kernel_check names section =
    each_passes
    (name_check section (unwrap_or (file_of names section.path) []) (filled_file names section.initrd))
    (names_of_section section)

-- what a section maps
abbrev pub mapped_check : Image → Volume → Span → MappedSection → Result (Unit {0}) PlanFault
mapped_check image volume boot mapped =
    if is_some mapped.section.other
    then system_check image boot mapped.section.path mapped.main.places
    else kernel_check (names_in volume image) mapped.section

-- disks, the message, and each section
unfoldable pub held_checks : Image → Machine → Volume → Span → Plan → Result (Unit {0}) PlanFault
held_checks image machine volume boot plan = do
  a ← each_passes (disk_check machine) plan.config.disks
  b ← if_there message_check plan.message
  each_passes (mapped_check image volume boot) plan.sections

-- ---- addresses

-- the slot of one sector, or why there is none; a hole needs none
abbrev pub place_check : Config → Machine → Opt → DiskSector → Result (Unit {0}) PlanFault
place_check config machine option place =
    with_fault (Address option) (slot_make config.mode (machine.geometry_of place.disk) place.disk place.sector 1)
    >>= λ slot. Ok tt

-- the most slots of a file: as many as 65,535 section sectors have
abbrev pub slots_limit : ℕ
slots_limit = 4128705

-- the sectors of a file, and how many slots it takes
abbrev pub mapped_file_check : Config → Machine → Opt → MappedFile → Result (Unit {0}) PlanFault
mapped_file_check config machine option file = do
  a ← each_passes (if_there (place_check config machine option)) file.places
  require (nat_le (slots_for config machine file) slots_limit) (TooManySlots option (slots_for config machine file))

-- the sectors of another system, by the option that names each
abbrev pub system_places_check : Config → Machine → List (Option DiskSector) → Result (Unit {0}) PlanFault
system_places_check config machine [] = Ok tt
system_places_check config machine (place ∷ places) = do
  a ← if_there (place_check config machine options.OtherDevice) place
  each_passes (if_there (place_check config machine options.Table)) places

-- those of a section's main file, or of its devices
abbrev pub main_address_check : Config → Machine → MappedSection → Result (Unit {0}) PlanFault
main_address_check config machine mapped =
    if is_some mapped.section.other
    then system_places_check config machine mapped.main.places
    else mapped_file_check config machine options.Image mapped.main

-- those of a section
abbrev pub mapped_address_check : Config → Machine → MappedSection → Result (Unit {0}) PlanFault
mapped_address_check config machine mapped = do
  a ← main_address_check config machine mapped
  if_there (mapped_file_check config machine options.Initrd) mapped.initrd

-- the message, and each section
unfoldable pub address_checks : Machine → Plan → Result (Unit {0}) PlanFault
address_checks machine plan = do
  a ← if_there (mapped_file_check plan.config machine options.Message) plan.message
  each_passes (mapped_address_check plan.config machine) plan.sections

-- ---- the plan

-- what is planned for the boot device that lies here, or the first refusal
unfoldable pub plan_at : Image → Machine → Volume → Span → Config → ℕ → Result Plan PlanFault
plan_at image machine volume boot config time = do
  a ← file_checks image machine volume (planned image machine volume config time)
  b ← held_checks image machine volume boot (planned image machine volume config time)
  c ← address_checks machine (planned image machine volume config time)
  Ok (planned image machine volume config time)

-- the places of the map's own sectors, which are known last
unfoldable pub own_places_check : Config → Machine → List DiskSector → Result (Unit {0}) PlanFault
own_places_check config machine places = each_passes (place_check config machine options.Map) places

-- ---- how a refusal is reported

-- the exit status
abbrev pub plan_status : PlanFault → ℕ
plan_status (Missing text) = 3
plan_status NoImagesLeft = 3
plan_status (Table fault) = 3
plan_status (Tree path fault) = 3
plan_status fault = 4

-- what is wrong with an address; no other fault comes of making a slot
abbrev pub address_text : AddressFault → List ℕ
address_text (slots.Cylinder cylinder) = codes " cylinder " ++ decimal cylinder ++ codes " over 1023"
address_text (slots.TooFar sector) = codes " sector " ++ decimal sector ++ codes " over 4294967295"
address_text slots.BadSlot = []
address_text slots.NotFound = []

-- the text of a refusal
unfoldable pub plan_text : PlanFault → List ℕ
plan_text (Missing text) = codes "missing " ++ text
plan_text NoImagesLeft = codes "no images left"
plan_text (Header path fault) = codes "header " ++ path
plan_text (Address option fault) = opt_name option ++ address_text fault
plan_text (TooManySlots option slots) = opt_name option ++ codes " slots " ++ decimal slots ++ codes " over 4128705"
plan_text (GeometryDiffers option have) = codes "geometry " ++ opt_name option ++ codes " is " ++ decimal have
plan_text (OtherIsBoot path) = codes "other is boot " ++ path
plan_text (NoSignature path) = codes "no signature " ++ path
plan_text (MessageTooLong size) = codes "message " ++ decimal size ++ codes " over 65535"
plan_text (Table fault) = device_text (device_fault fault)
plan_text (Tree path fault) = codes "path " ++ path
