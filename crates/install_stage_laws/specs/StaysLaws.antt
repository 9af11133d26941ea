-- What the new map lies in, where it stays.
use Rattle.std.specs.Prelude.{◌≢◌, ℕ, List, ◌∷◌, false, All, Option}
use Rattle.disk_trait.specs.Past.{Past}
use Rattle.disk_trait.specs.Moments.{now, LeavesOnly}
use Rattle.lilo_model.specs.Clear.{IsClearPlace}
use Rattle.lilo_model.specs.Conf.{Config}
use Rattle.lilo_model.specs.DefaultLine.{Empty}
use Rattle.lilo_model.specs.Devices.{Device}
use Rattle.lilo_model.specs.Disks.{Image, Machine, Span, DiskSector}
use Rattle.lilo_model.specs.Meant.{meant}
use Rattle.lilo_model.specs.MinixNames.{names_in, IsSound}
use Rattle.lilo_model.specs.MinixParts.{Volume}
use Rattle.lilo_model.specs.Planned.{planned}
use Rattle.boot_laws.specs.SameOn.{SameOn}
use Rattle.map_laws.specs.MapStays.{fixed_places}
use Rattle.map_laws.specs.PlannedLies.{PlannedLies}
use Rattle.map_laws.specs.Lies.{MapPlaces}
use Rattle.install_laws.specs.Headline.{Means}
use Rattle.install_laws.specs.Writes.{WritesOnly}

-- the sectors that a planned map, its boot sector, its default line and its files lie in
abbrev pub planned_places : Image → Machine → Volume → Span → Config → ℕ → MapPlaces → List DiskSector
planned_places before machine volume span config time places =
    places.line ∷ fixed_places span (planned before machine volume config time) places

-- where what a configuration plans lies in one image, another one that is the same in these sectors means what it does
abbrev pub MeansStaysLaw : Type 0
MeansStaysLaw =
    (before image c : Image) (machine : Machine) (volume : Volume) (span : Span) (config : Config) (time : ℕ)
    (devices : Device → List ℕ) (places : MapPlaces) (present : List ℕ)
    → IsSound volume before
    → PlannedLies before image machine volume span config time devices Empty places present
    → places.line ≢ record { disk = span.disk; sector = span.start }
    → SameOn (planned_places before machine volume span config time places) image c
    → Means machine span places.line (meant config (names_in volume before) devices) c

-- a run that writes only what a writer of files may, in no new zone, leaves what is Clear
abbrev pub ClearStaysLaw : Type 0
ClearStaysLaw =
    (volume : Volume) (places : List DiskSector) (old new : Option Past)
    → All (IsClearPlace volume (now old)) places → WritesOnly volume (λ zone. false) old new
    → LeavesOnly old new (SameOn places (now old))

-- so such a run leaves at every moment what means what the configuration does
abbrev pub TidyLaw : Type 0
TidyLaw =
    (before : Image) (machine : Machine) (volume : Volume) (span : Span) (config : Config) (time : ℕ)
    (devices : Device → List ℕ) (places : MapPlaces) (present : List ℕ) (committed tidied : Option Past)
    → IsSound volume before
    → PlannedLies before (now committed) machine volume span config time devices Empty places present
    → places.line ≢ record { disk = span.disk; sector = span.start }
    → All (IsClearPlace volume (now committed)) (planned_places before machine volume span config time places)
    → WritesOnly volume (λ zone. false) committed tidied
    → LeavesOnly committed tidied (Means machine span places.line (meant config (names_in volume before) devices))
