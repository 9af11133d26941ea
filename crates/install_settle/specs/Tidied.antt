-- A new map that was committed boots and is Held whatever its tidying leaves (rules of this project's own).
use Rattle.std.specs.Prelude.{◌≡◌, ℕ, Bool, false, List, Option, None, Some}
use Rattle.disk_trait.specs.Past.{Past, with_sector}
use Rattle.disk_trait.specs.Moments.{now, LeavesOnly}
use Rattle.lilo_model.specs.Conf.{Config}
use Rattle.lilo_model.specs.Devices.{Device}
use Rattle.lilo_model.specs.Disks.{Image, Machine, Span, DiskSector}
use Rattle.lilo_model.specs.Lays.{Lays}
use Rattle.lilo_model.specs.Meant.{meant}
use Rattle.lilo_model.specs.MinixNames.{names_in, reached}
use Rattle.lilo_model.specs.MinixParts.{Volume, parts_of}
use Rattle.lilo_model.specs.NamePlaces.{with_tilde}
use Rattle.lilo_model.specs.Planned.{devices_in, planned}
use Rattle.lilo_model.specs.Settled.{Holds, Held}
use Rattle.install_laws.specs.Headline.{Means}
use Rattle.install_laws.specs.Writes.{WritesOnly}
use Rattle.install_stage_laws.specs.Committed.{IsStaged}
use Rattle.install_settle.specs.Tidies.{IsTidying}
use Rattle.map_laws.specs.Lies.{MapPlaces}

-- an image means a configuration, has Lays of what was planned of it, and is Held
pub record IsTidiedMap (before : Image) (machine : Machine) (volume : Volume) (span : Span) (config : Config) (time : ℕ) (line_place : DiskSector)
    (path : List (List ℕ)) (c : Image) : Type 0 where
  pub means : Means machine span line_place (meant config (names_in volume before) (devices_in before machine)) c
  pub lays : Lays c machine volume span (planned before machine volume config time) path (before span.disk span.start)
  pub held : Held c machine volume span path

-- Where a new map was staged at `map~`, and the boot sector that names it was written, each image that tidying leaves, at any
-- moment, is such a one.
abbrev pub TidiedMapLaw : Type 0
TidiedMapLaw =
    (before : Image) (machine : Machine) (volume : Volume) (span : Span) (config : Config) (device : Device) (time : ℕ)
    (chosen : ℕ → Bool) (places : MapPlaces) (bytes : List ℕ) (path : List (List ℕ))
    (staged committed tidied : Option Past)
    → (map : IsStaged before (now staged) machine volume span config device time chosen places bytes path)
    → reached volume.layout (parts_of volume (now staged)) (with_tilde path) ≡ Some map.holds.holder
    → now committed ≡ with_sector (now staged) span.disk span.start bytes
    → WritesOnly volume (λ zone. false) committed tidied
    → LeavesOnly committed tidied (IsTidying volume (now committed) path)
    → LeavesOnly committed tidied (IsTidiedMap before machine volume span config time places.line path)

-- in such an image, where nothing is at `map~`, the file at `map` holds the boot sector's table
abbrev pub TidiedHoldsLaw : Type 0
TidiedHoldsLaw =
    (before : Image) (machine : Machine) (volume : Volume) (span : Span) (config : Config) (time : ℕ) (line_place : DiskSector)
    (path : List (List ℕ)) (c : Image)
    → IsTidiedMap before machine volume span config time line_place path c
    → reached volume.layout (parts_of volume c) (with_tilde path) ≡ None
    → Holds c machine volume span path
