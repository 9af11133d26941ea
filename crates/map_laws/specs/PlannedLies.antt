-- What a configuration plans on a sound volume boots as it means.
use Rattle.std.specs.Prelude.{◌≡◌, ◌≢◌, ◌≤◌, ◌<◌, ℕ, ◌^◌, List, [], ◌∷◌, ◌++◌, length, drop, IfSome, Option, None, Some, Ok}
use Rattle.lilo_model.specs.Disks.{Image, Machine, Span, DiskSector, bytes_at}
use Rattle.lilo_model.specs.Devices.{Device}
use Rattle.lilo_model.specs.Conf.{Config, ConfSection}
use Rattle.lilo_model.specs.ConfLawful.{IsLawful}
use Rattle.lilo_model.specs.Options.{text_limit}
use Rattle.lilo_model.specs.PlanRefusal.{message_limit}
use Rattle.lilo_model.specs.LineSector.{line_at}
use Rattle.lilo_model.specs.DefaultLine.{DefaultLine}
use Rattle.lilo_model.specs.Prompt.{Key}
use Rattle.lilo_model.specs.MinixParts.{Volume}
use Rattle.lilo_model.specs.MinixNames.{names_in, IsSound}
use Rattle.lilo_model.specs.MinixFindNames.{Names}
use Rattle.lilo_model.specs.Boot.{whole_boot}
use Rattle.lilo_model.specs.Meant.{Target, middle_text, target_of, filled_file, meant}
use Rattle.lilo_model.specs.Plan.{MappedSection, slot_to, plan_sectors, plan_boot_sector}
use Rattle.lilo_model.specs.Planned.{planned}
use Rattle.map_laws.specs.Lies.{MapPlaces, after_line, all_places, AreNamed, IsNone, OptionalLies, TargetLies}
use Rattle.lilo_model.specs.Lays.{AreAt}

-- what the sections of a configuration start
abbrev pub some_target : Option Target → List Target
some_target None = []
some_target (Some target) = target ∷ []

abbrev pub targets_for : Names → (Device → List ℕ) → List ConfSection → List Target
targets_for names devices [] = []
targets_for names devices (section ∷ sections) = some_target (target_of section names devices) ++ targets_for names devices sections

-- the files of sections lie where they are mapped from, as their targets have them
abbrev pub FilesLie : Image → Machine → Config → DiskSector → DiskSector → List MappedSection → List Target → Type 0
FilesLie image machine config line_place zero_place [] [] = Unit {0}
FilesLie image machine config line_place zero_place [] (target ∷ targets) = ⊥
FilesLie image machine config line_place zero_place (mapped ∷ sections) [] = ⊥
FilesLie image machine config line_place zero_place (mapped ∷ sections) (target ∷ targets) =
    (length (middle_text mapped.section) ≤ text_limit)
    × TargetLies image machine config line_place zero_place mapped target
    × FilesLie image machine config line_place zero_place sections targets

-- What a configuration plans on a volume as one image has it lies in another: the boot sector, over the one that was there
-- before; the sectors of the map at their places, of which the default line's is none of the others and of no file, and
-- may say any line; and the files and sectors of other systems where they are mapped from.
pub record PlannedLies (before image : Image) (machine : Machine) (volume : Volume) (span : Span) (config : Config)
    (time : ℕ) (devices : Device → List ℕ) (line : DefaultLine) (places : MapPlaces) (present : List ℕ) : Type 0 where
  pub lawful : IsLawful config
  pub time_fits : time < 2 ^ 32
  pub present_long : length present ≡ 512
  pub boot : image span.disk span.start ≡ plan_boot_sector (planned before machine volume config time) machine (all_places places) present
  pub line_is : line_at (bytes_at image places.line) ≡ Ok line
  pub lies : AreAt image (after_line places)
      (drop 1 (plan_sectors (planned before machine volume config time) machine (all_places places)))
  pub named : AreNamed machine (slot_to config.mode machine) (all_places places)
  pub apart : IsNone places.line (after_line places)
  -- a section is left
  pub left : (planned before machine volume config time).sections ≢ []
  pub message_few : IfSome (filled_file (names_in volume before) config.message) (λ bytes. length bytes ≤ message_limit)
  pub message : OptionalLies image machine config places.line places.zero_place (planned before machine volume config time).message
      (filled_file (names_in volume before) config.message)
  pub files : FilesLie image machine config places.line places.zero_place (planned before machine volume config time).sections
      (targets_for (names_in volume before) devices config.sections)

-- it boots as the configuration and its files mean
abbrev pub PlannedLaw : Type 0
PlannedLaw =
    (before image : Image) (machine : Machine) (volume : Volume) (span : Span) (config : Config) (time : ℕ)
    (devices : Device → List ℕ) (line : DefaultLine) (places : MapPlaces)
    (present : List ℕ) (keys : List Key) (memory : ℕ)
    → IsSound volume before
    → PlannedLies before image machine volume span config time devices line places present
    → whole_boot image machine span keys memory ≡ meant config (names_in volume before) devices line keys memory
