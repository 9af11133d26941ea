-- What the checks of a plan accept is what the law on planned maps asks of places and of files.
use Rattle.std.specs.Prelude.{◌≡◌, ◌≢◌, ◌≤◌, ◌<◌, ℕ, ◌+◌, ◌*◌, ◌^◌, true, List, [], ◌∷◌, length, drop, Option, None, Some, IfSome, Ok, replicate}
use Rattle.std.specs.List.{AllByRecursion}
use Rattle.lilo_model.specs.Bytes.{part_of}
use Rattle.lilo_model.specs.Disks.{Image, Machine, Span, DiskSector, IsGeometry, bytes_at}
use Rattle.lilo_model.specs.Devices.{Device, IsDevice}
use Rattle.lilo_model.specs.Partitions.{span_of}
use Rattle.lilo_model.specs.ConfOptions.{Opt}
use Rattle.lilo_model.specs.Conf.{Config}
use Rattle.lilo_model.specs.ConfLawful.{IsLawful}
use Rattle.lilo_model.specs.LineSector.{line_at}
use Rattle.lilo_model.specs.DefaultLine.{DefaultLine}
use Rattle.lilo_model.specs.Prompt.{Key}
use Rattle.lilo_model.specs.MinixParts.{Volume, parts_of, is_file}
use Rattle.lilo_model.specs.MinixNames.{Named, content, names_in, IsSound}
use Rattle.lilo_model.specs.Boot.{whole_boot}
use Rattle.lilo_model.specs.Lays.{AreAt}
use Rattle.lilo_model.specs.Meant.{filled_file, meant}
use Rattle.lilo_model.specs.Plan.{MappedFile, MappedSection, slot_to, plan_sectors, plan_boot_sector}
use Rattle.lilo_model.specs.Planned.{devices_in, mapped_inode, optional_file, planned}
use Rattle.lilo_model.specs.PlanRefusal.{if_there, mapped_file_check, own_places_check, plan_at}
use Rattle.map_laws.specs.Lies.{MapPlaces, after_line, all_places, AreNamed, IsNone, FileLies, OptionalLies}
use Rattle.map_laws.specs.Files.{IsKept}
use Rattle.map_laws.specs.PlannedLies.{PlannedLies}

-- a place is a sector of one of the four disks
pub record IsInside (machine : Machine) (place : DiskSector) : Type 0 where
  pub disk : place.disk ≤ 3
  pub sector : place.sector < machine.size_of place.disk

-- a machine with a volume whose zones lie on one of its disks
pub record HasVolume (machine : Machine) (volume : Volume) : Type 0 where
  pub geometries : (disk : ℕ) → IsGeometry (machine.geometry_of disk)
  pub disk : volume.span.disk ≤ 3
  pub zones : volume.span.start + 2 * volume.layout.zones ≤ machine.size_of volume.span.disk

-- the map's own places that are accepted have slots that name them
abbrev pub PlacesLaw : Type 0
PlacesLaw =
    (machine : Machine) (config : Config) (places : List DiskSector)
    → ((disk : ℕ) → IsGeometry (machine.geometry_of disk)) → AllByRecursion (IsInside machine) places → own_places_check config machine places ≡ Ok tt
    → AreNamed machine (slot_to config.mode machine) places

-- the sectors of a file are as they were, and none is the default line's
abbrev pub IsLeft : Image → Image → DiskSector → MappedFile → Type 0
IsLeft before image line_place file = AllByRecursion (λ place. IsKept before image place × (place ≢ Some line_place)) file.places

abbrev pub IsOptionalLeft : Image → Image → DiskSector → Option MappedFile → Type 0
IsOptionalLeft before image line_place None = Unit {0}
IsOptionalLeft before image line_place (Some file) = IsLeft before image line_place file

-- the bytes of a file are counted in 32 bits, as an inode counts them
abbrev pub IsSmall : MappedFile → Type 0
IsSmall file = file.size < 2 ^ 32

-- so are those of a section's files
abbrev pub AreSmall : MappedSection → Type 0
AreSmall mapped = IsSmall mapped.main × IfSome mapped.initrd IsSmall

-- the zero sector of a map lies in an image: it has a slot, and isn't the default line's
pub record HasZeros (image : Image) (machine : Machine) (config : Config) (line_place zero_place : DiskSector) : Type 0 where
  pub named : AreNamed machine (slot_to config.mode machine) (zero_place ∷ [])
  pub other : line_place ≢ zero_place
  pub zeros : bytes_at image zero_place ≡ replicate 512 0

-- a file that is accepted lies where its sectors are left
abbrev pub AcceptedFileLaw : Type 0
AcceptedFileLaw =
    (before image : Image) (machine : Machine) (volume : Volume) (config : Config) (line_place zero_place : DiskSector) (option : Opt) (number : ℕ)
    → IsSound volume before → HasVolume machine volume → HasZeros image machine config line_place zero_place
    → Named volume.layout (parts_of volume before) number → is_file ((parts_of volume before).node number) ≡ true
    → 1 ≤ ((parts_of volume before).node number).size → ((parts_of volume before).node number).size < 2 ^ 32
    → mapped_file_check config machine option (mapped_inode volume (parts_of volume before) number) ≡ Ok tt
    → IsLeft before image line_place (mapped_inode volume (parts_of volume before) number)
    → FileLies image machine config line_place zero_place (mapped_inode volume (parts_of volume before) number)
    (content volume.layout (parts_of volume before) number)

-- so does one that may be absent or empty
abbrev pub AcceptedOptionalLaw : Type 0
AcceptedOptionalLaw =
    (before image : Image) (machine : Machine) (volume : Volume) (config : Config) (line_place zero_place : DiskSector) (option : Opt) (path : Option (List ℕ))
    → IsSound volume before → HasVolume machine volume → HasZeros image machine config line_place zero_place
    → IfSome (optional_file volume (parts_of volume before) path) IsSmall
    → if_there (mapped_file_check config machine option) (optional_file volume (parts_of volume before) path) ≡ Ok tt
    → IsOptionalLeft before image line_place (optional_file volume (parts_of volume before) path)
    → OptionalLies image machine config line_place zero_place (optional_file volume (parts_of volume before) path) (filled_file (names_in volume before) path)

-- ---- the whole

-- of the sector of a table's device the table is as it was
abbrev pub IsTableKept : Image → Image → Option DiskSector → Type 0
IsTableKept before image None = Unit {0}
IsTableKept before image (Some place) = part_of (bytes_at image place) 446 64 ≡ part_of (bytes_at before place) 446 64

-- the sectors of another system are as they were, and none is the default line's
abbrev pub IsSystemLeft : Image → Image → DiskSector → List (Option DiskSector) → Type 0
IsSystemLeft before image line_place [] = Unit {0}
IsSystemLeft before image line_place (place ∷ places) =
    (IsKept before image place × (place ≢ Some line_place))
    × AllByRecursion (λ place. IsTableKept before image place × (place ≢ Some line_place)) places

-- so are the files of a section, or its devices
abbrev pub IsSectionLeft : Image → Image → DiskSector → MappedSection → Option Device → Type 0
IsSectionLeft before image line_place mapped None =
    IsLeft before image line_place mapped.main × IsOptionalLeft before image line_place mapped.initrd
IsSectionLeft before image line_place mapped (Some device) = IsSystemLeft before image line_place mapped.main.places

-- what was accepted by one image: a lawful configuration, its plan, and places for the map's sectors
pub record IsAccepted (before : Image) (machine : Machine) (volume : Volume) (span : Span) (config : Config)
    (time : ℕ) (places : List DiskSector) : Type 0 where
  pub lawful : IsLawful config
  pub has : HasVolume machine volume
  pub devices : (device : Device) (found : Span) → IsDevice device → span_of before machine device ≡ Ok found
      → IsInside machine (record { disk = found.disk; sector = found.start })
  pub small : AllByRecursion AreSmall (planned before machine volume config time).sections
  pub time_fits : time < 2 ^ 32
  pub plan : plan_at before machine volume span config time ≡ Ok (planned before machine volume config time)
  pub inside : AllByRecursion (IsInside machine) places
  pub own : own_places_check config machine places ≡ Ok tt

-- what is in another: the boot sector, the map at its places, and all that is mapped as it was
pub record IsWritten (before image : Image) (machine : Machine) (volume : Volume) (span : Span) (config : Config)
    (time : ℕ) (line : DefaultLine) (places : MapPlaces) (present : List ℕ) : Type 0 where
  pub whole : (place : DiskSector) → IsInside machine place → length (bytes_at image place) ≡ 512
  pub present_long : length present ≡ 512
  pub boot : image span.disk span.start ≡ plan_boot_sector (planned before machine volume config time) machine (all_places places) present
  pub line_is : line_at (bytes_at image places.line) ≡ Ok line
  pub lies : AreAt image (after_line places)
      (drop 1 (plan_sectors (planned before machine volume config time) machine (all_places places)))
  pub apart : IsNone places.line (after_line places)
  pub message : IsOptionalLeft before image places.line (planned before machine volume config time).message
  pub sections : AllByRecursion (λ mapped. IsSectionLeft before image places.line mapped mapped.section.other)
      (planned before machine volume config time).sections

-- what is accepted by one image on a sound volume and written in another lies there as planned
abbrev pub AcceptedLiesLaw : Type 0
AcceptedLiesLaw =
    (before image : Image) (machine : Machine) (volume : Volume) (span : Span) (config : Config) (time : ℕ)
    (line : DefaultLine) (places : MapPlaces) (present : List ℕ)
    → IsSound volume before
    → IsAccepted before machine volume span config time (all_places places)
    → IsWritten before image machine volume span config time line places present
    → PlannedLies before image machine volume span config time (devices_in before machine) line places present

-- and so it boots as the configuration and its files mean
abbrev pub AcceptedLaw : Type 0
AcceptedLaw =
    (before image : Image) (machine : Machine) (volume : Volume) (span : Span) (config : Config) (time : ℕ)
    (line : DefaultLine) (places : MapPlaces) (present : List ℕ) (keys : List Key) (memory : ℕ)
    → IsSound volume before
    → IsAccepted before machine volume span config time (all_places places)
    → IsWritten before image machine volume span config time line places present
    → whole_boot image machine span keys memory ≡ meant config (names_in volume before) (devices_in before machine) line keys memory
