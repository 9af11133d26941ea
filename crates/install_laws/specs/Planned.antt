-- What an installation has to bring about for its commit: once the boot sector is written, what it planned lies.
use Rattle.std.specs.Prelude.{◌≢◌, ℕ, List}
use Rattle.lilo_model.specs.Disks.{Image, Machine, Span}
use Rattle.lilo_model.specs.Devices.{Device}
use Rattle.lilo_model.specs.Conf.{Config}
use Rattle.lilo_model.specs.DefaultLine.{Empty}
use Rattle.lilo_model.specs.MinixParts.{Volume}
use Rattle.lilo_model.specs.MinixNames.{names_in, IsSound}
use Rattle.lilo_model.specs.Meant.{meant}
use Rattle.lilo_model.specs.Planned.{devices_in}
use Rattle.map_laws.specs.Accepted.{IsAccepted, IsWritten}
use Rattle.map_laws.specs.PlannedLies.{PlannedLies}
use Rattle.map_laws.specs.Lies.{MapPlaces, all_places}
use Rattle.install_laws.specs.Headline.{Means}

-- an image where it lies, with an empty default line, means what the configuration and its files do
abbrev pub MeansLaw : Type 0
MeansLaw =
    (before c : Image) (machine : Machine) (volume : Volume) (span : Span) (config : Config) (time : ℕ)
    (devices : Device → List ℕ) (places : MapPlaces) (present : List ℕ)
    → IsSound volume before
    → PlannedLies before c machine volume span config time devices Empty places present
    → places.line ≢ record { disk = span.disk; sector = span.start }
    → Means machine span places.line (meant config (names_in volume before) devices) c

-- and so does one where what the checks of a plan accept is written, with an empty default line
abbrev pub AcceptedMeansLaw : Type 0
AcceptedMeansLaw =
    (before c : Image) (machine : Machine) (volume : Volume) (span : Span) (config : Config) (time : ℕ)
    (places : MapPlaces) (present : List ℕ)
    → IsSound volume before
    → IsAccepted before machine volume span config time (all_places places)
    → IsWritten before c machine volume span config time Empty places present
    → places.line ≢ record { disk = span.disk; sector = span.start }
    → Means machine span places.line (meant config (names_in volume before) (devices_in before machine)) c
