-- How a configuration names sectors.
use Rattle.std.specs.Prelude.{◌≡◌, ℕ, List, IfSome, Option, Some, None}
use Rattle.std.specs.List.{AllByRecursion}
use Rattle.lilo_model.specs.Devices.{Device}
use Rattle.lilo_model.specs.Conf.{Config}
use Rattle.lilo_model.specs.Plan.{MappedFile, MappedSection}
use Rattle.sector_address.specs.View.{mode_view}
use Rattle.slot_lists.specs.declared.runs.Run.{Run}
use Rattle.slot_lists.specs.Runs.{places_in}
use Rattle.run_sections.specs.declared.section.Naming.{Naming}
use Rattle.map_plan.specs.declared.address.MapNaming.{MapNaming}

-- a configuration names sectors so
pub record NamesBy (naming : Naming) (config : Config) : Type 0 where
  pub mode : config.mode ≡ mode_view naming.mode
  pub compact : config.compact ≡ naming.compact

-- a file of some bytes with these runs
abbrev pub file_of_runs : ℕ → List Run → MappedFile
file_of_runs size runs = record { size = size; places = places_in runs }

-- a configuration names the sectors of a map so
pub record NamesAs (naming : MapNaming) (config : Config) : Type 0 where
  pub mode : config.mode ≡ mode_view naming.mode
  pub compact : config.compact ≡ naming.compact

-- a file's sectors lie on this disk
abbrev pub LiesOnDisk : ℕ → MappedFile → Type 0
LiesOnDisk disk file = AllByRecursion (λ place. IfSome place (λ place. place.disk ≡ disk)) file.places

-- so do those of a section, unless it is another system's
abbrev pub LiesOnDiskBy : ℕ → MappedSection → Option Device → Type 0
LiesOnDiskBy disk mapped (Some device) = Unit {0}
LiesOnDiskBy disk mapped None = LiesOnDisk disk mapped.main × IfSome mapped.initrd (LiesOnDisk disk)

abbrev pub SectionLiesOnDisk : ℕ → MappedSection → Type 0
SectionLiesOnDisk disk mapped = LiesOnDiskBy disk mapped mapped.section.other
