-- What a boot of a planned map may look at, and that a session keeps what it has to once the map is committed (rules of this
-- project's own).
use Rattle.std.specs.Prelude.{◌≡◌, ◌≢◌, ℕ, Bool, List, ◌∷◌, All, Contains, Some}
use Rattle.disk_trait.specs.Past.{with_sector}
use Rattle.lilo_model.specs.Boot.{Boot}
use Rattle.lilo_model.specs.Conf.{Config}
use Rattle.lilo_model.specs.DefaultLine.{DefaultLine, Empty}
use Rattle.lilo_model.specs.Devices.{Device}
use Rattle.lilo_model.specs.Disks.{Image, Machine, Span}
use Rattle.lilo_model.specs.Mapped.{mapped_sectors}
use Rattle.lilo_model.specs.Meant.{Target, Menu, meant}
use Rattle.lilo_model.specs.MinixNames.{names_in}
use Rattle.lilo_model.specs.Plan.{Plan}
use Rattle.lilo_model.specs.Planned.{devices_in}
use Rattle.lilo_model.specs.Prompt.{Key}
use Rattle.map_laws.specs.Lies.{MapPlaces, MapLies}
use Rattle.map_laws.specs.MapStays.{fixed_places}
use Rattle.install_stage_laws.specs.Committed.{IsStaged}
use Rattle.session_model.specs.Keeps.{IsLineApart, IsWhole, Keeps}
use Rattle.session_model.specs.Site.{Site, boot_place}
use Rattle.session_model.specs.State.{BodyMeans, body_in, line_in}

-- each Mapped sector of a planned map is its default line's, its boot sector, or one that the map or its files lie in
abbrev pub MappedLiesLaw : Type 0
MappedLiesLaw =
    (image : Image) (machine : Machine) (span : Span) (plan : Plan) (menu : Menu) (targets : List Target)
    (line : DefaultLine) (places : MapPlaces) (present : List ℕ)
    → MapLies image machine span plan menu targets line places present
    → All (Contains (places.line ∷ fixed_places span plan places)) (mapped_sectors image machine span)

-- and its default line's is no other of them, where it isn't the boot sector
abbrev pub LineApartLaw : Type 0
LineApartLaw =
    (site : Site) (image : Image) (plan : Plan) (menu : Menu) (targets : List Target) (line : DefaultLine)
    (places : MapPlaces) (present : List ℕ)
    → MapLies image site.machine site.boot plan menu targets line places present → places.line ≢ boot_place site
    → IsLineApart site image

-- The image in which the boot sector of a staged map is written keeps all that each image of a session keeps.
abbrev pub CommittedKeepsLaw : Type 0
CommittedKeepsLaw =
    (site : Site) (before staged : Image) (config : Config) (device : Device) (time : ℕ) (chosen : ℕ → Bool)
    (places : MapPlaces) (bytes : List ℕ) (path : List (List ℕ))
    → IsWhole site staged
    → IsStaged before staged site.machine site.volume site.boot config device time chosen places bytes path
    → Keeps site (with_sector staged site.boot.disk site.boot.start bytes)

-- its body boots as is meant, with each default line, and the line is empty
pub record BootsAnew (site : Site) (intended : DefaultLine → List Key → ℕ → Boot) (image : Image) : Type 0 where
  pub boots : BodyMeans site (body_in site image) intended
  pub line : line_in site image ≡ Some Empty

-- so it is in that image: as the configuration and its files mean
abbrev pub CommittedMeansLaw : Type 0
CommittedMeansLaw =
    (site : Site) (before staged : Image) (config : Config) (device : Device) (time : ℕ) (chosen : ℕ → Bool)
    (places : MapPlaces) (bytes : List ℕ) (path : List (List ℕ))
    → IsStaged before staged site.machine site.volume site.boot config device time chosen places bytes path
    → BootsAnew site (meant config (names_in site.volume before) (devices_in before site.machine))
    (with_sector staged site.boot.disk site.boot.start bytes)
