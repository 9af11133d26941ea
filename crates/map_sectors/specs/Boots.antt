-- What a boot does of a planned map, once its boot sector is on the disk.
use Rattle.std.specs.Prelude.{◌≡◌, ℕ, List}
use Rattle.lilo_model.specs.Disks.{Image, Machine, Span, DiskSector}
use Rattle.lilo_model.specs.DefaultLine.{DefaultLine}
use Rattle.lilo_model.specs.Prompt.{Key}
use Rattle.lilo_model.specs.MinixParts.{Volume}
use Rattle.lilo_model.specs.MinixNames.{names_in, IsSound}
use Rattle.lilo_model.specs.Boot.{whole_boot}
use Rattle.lilo_model.specs.Meant.{meant}
use Rattle.lilo_model.specs.Plan.{plan_boot_sector}
use Rattle.lilo_model.specs.Planned.{devices_in}
use Rattle.lilo_conf.specs.View.{config_view}
use Rattle.map_laws.specs.Accepted.{IsAccepted, IsWritten}
use Rattle.map_laws.specs.Lies.{MapPlaces, all_places}
use Rattle.map_sectors.specs.declared.map.MapPlan.{MapPlan}
use Rattle.map_sectors.specs.Map.{plan_view}

-- What one image accepts, with the map's places, boots in another as the configuration and its files mean, for all keys and
-- any memory: there this is the boot sector, made over the one that was there; with it all is written.
abbrev pub BootsAsMeant : Machine → MapPlan → List DiskSector → List ℕ → List ℕ → Type 0
BootsAsMeant machine plan places present sector =
    (before image : Image) (volume : Volume) (span : Span) (line : DefaultLine) (map_places : MapPlaces)
    (keys : List Key) (memory : ℕ)
    → places ≡ all_places map_places
    → IsSound volume before
    → IsAccepted before machine volume span (config_view plan.config) plan.time places
    → image span.disk span.start ≡ sector
    → (image span.disk span.start ≡ plan_boot_sector (plan_view plan) machine places present
    → IsWritten before image machine volume span (config_view plan.config) plan.time line map_places present)
    → whole_boot image machine span keys memory
    ≡ meant (config_view plan.config) (names_in volume before) (devices_in before machine) line keys memory
