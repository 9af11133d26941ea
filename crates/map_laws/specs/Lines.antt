-- A planned map with each other default line.
use Rattle.std.specs.Prelude.{◌≡◌, ◌≢◌, ℕ, List, Ok}
use Rattle.lilo_model.specs.Disks.{Image, Machine, Span, DiskSector, with_sector}
use Rattle.lilo_model.specs.Devices.{Device}
use Rattle.lilo_model.specs.Slots.{place_at}
use Rattle.lilo_model.specs.BootSector.{BootSector, boot_at}
use Rattle.lilo_model.specs.Conf.{Config}
use Rattle.lilo_model.specs.LineSector.{line_at}
use Rattle.lilo_model.specs.DefaultLine.{DefaultLine}
use Rattle.lilo_model.specs.Prompt.{Key}
use Rattle.lilo_model.specs.MinixParts.{Volume}
use Rattle.lilo_model.specs.MinixNames.{names_in, IsSound}
use Rattle.lilo_model.specs.Boot.{whole_boot}
use Rattle.lilo_model.specs.Meant.{meant}
use Rattle.map_laws.specs.PlannedLies.{PlannedLies}
use Rattle.map_laws.specs.Lies.{MapPlaces}

-- the boot sector of an image names a place as that of the default line
pub record NamesLine (image : Image) (machine : Machine) (span : Span) (place : DiskSector) : Type 0 where
  pub boot : BootSector
  pub says : boot_at (image span.disk span.start) ≡ Ok boot
  pub named : place_at machine boot.line 0 ≡ Ok place

-- What a configuration plans boots as it means with whatever bytes are put into the default line's sector that say a line;
-- and it is the first place that the boot sector names for it. That place isn't the boot sector's own.
pub record BootsWithLines (before image : Image) (machine : Machine) (volume : Volume) (span : Span) (config : Config)
    (devices : Device → List ℕ) (place : DiskSector) : Type 0 where
  pub names : NamesLine image machine span place
  pub boots : (bytes : List ℕ) (line : DefaultLine) (keys : List Key) (memory : ℕ) → line_at bytes ≡ Ok line
      → whole_boot (with_sector image place bytes) machine span keys memory
      ≡ meant config (names_in volume before) devices line keys memory

abbrev pub LinesLaw : Type 0
LinesLaw =
    (before image : Image) (machine : Machine) (volume : Volume) (span : Span) (config : Config) (time : ℕ)
    (devices : Device → List ℕ) (line : DefaultLine) (places : MapPlaces) (present : List ℕ)
    → IsSound volume before
    → PlannedLies before image machine volume span config time devices line places present
    → places.line ≢ record { disk = span.disk; sector = span.start }
    → BootsWithLines before image machine volume span config devices places.line
