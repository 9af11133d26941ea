-- What is staged of an installation means the new configuration once the boot sector is written, and what it leaves of the
-- present map (rules of this project's own).
use Rattle.std.specs.Prelude.{◌≡◌, ◌≢◌, ◌⊎◌, ℕ, Bool, true, List, Option, None}
use Rattle.disk_trait.specs.Past.{Past, with_sector}
use Rattle.disk_trait.specs.Moments.{IsTold, now, MayLeave, LeavesOnly}
use Rattle.lilo_model.specs.Clear.{Clear}
use Rattle.lilo_model.specs.Conf.{Config}
use Rattle.lilo_model.specs.DefaultLine.{Empty}
use Rattle.lilo_model.specs.Devices.{Device}
use Rattle.lilo_model.specs.Disks.{Image, Machine, Span, DiskSector}
use Rattle.lilo_model.specs.Mapped.{mapped_sectors}
use Rattle.lilo_model.specs.Meant.{meant}
use Rattle.lilo_model.specs.MinixNames.{Thing, reached, names_in, IsSound}
use Rattle.lilo_model.specs.MinixParts.{Volume, parts_of}
use Rattle.lilo_model.specs.NamePlaces.{with_tilde}
use Rattle.lilo_model.specs.Planned.{devices_in}
use Rattle.lilo_model.specs.Settled.{Holds, Held}
use Rattle.minix_change_laws.specs.Beside.{IsDataZone}
use Rattle.minix_change_laws.specs.Sees.{SeenAsIn}
use Rattle.minix_change_laws.specs.Tree.{KeepsNamed, HasTreeWith}
use Rattle.map_laws.specs.Accepted.{IsAccepted, IsWritten}
use Rattle.map_laws.specs.Lies.{MapPlaces, all_places}
use Rattle.install_laws.specs.Boots.{SparesMapped, HasBootOf}
use Rattle.install_laws.specs.Headline.{Means}
use Rattle.install_laws.specs.Writes.{IsWritable, IsApartSector, WritesOnly, AreAvoided}
use Rattle.install_stage_laws.specs.Devices.{AreDevicesApart}
use Rattle.install_stage_laws.specs.Staged.{KeepsRest, AreFree, IsStagedMap, IsNewBoot}

-- ---- what is written

-- a sector outside a volume, or of its block 0, isn't one that a writer of files may write, where the chosen zones are data
-- zones
abbrev pub ApartKeptLaw : Type 0
ApartKeptLaw =
    (volume : Volume) (image : Image) (chosen : ℕ → Bool) (place : DiskSector)
    → IsSound volume image → ((zone : ℕ) → chosen zone ≡ true → IsDataZone volume.layout zone)
    → IsApartSector volume place.disk place.sector → IsWritable volume image chosen place → ⊥

-- a run that writes only what such a writer may keeps the rest, in whatever a stop leaves and in what is held
abbrev pub KeepsRestLaw : Type 0
KeepsRestLaw =
    (volume : Volume) (chosen : ℕ → Bool) (old new : Option Past) → WritesOnly volume chosen old new
    → ((c : Image) → MayLeave new c → KeepsRest volume (now old) chosen c)
    × (IsTold new → KeepsRest volume (now old) chosen (now new))

-- what install_laws' `Installs` asks of an installation's staging
pub record Stages (volume : Volume) (machine : Machine) (span : Span) (begun staged : Option Past) : Type 0 where
  pub stage : Clear volume (now begun) machine span → SparesMapped machine span begun staged
  pub stage_boot : LeavesOnly begun staged (HasBootOf span (now begun))

-- such a run promises that, where its chosen zones were free, and avoid the sectors of a Clear map
abbrev pub StagesLaw : Type 0
StagesLaw =
    (volume : Volume) (machine : Machine) (span : Span) (chosen : ℕ → Bool) (begun staged : Option Past)
    → IsSound volume (now begun) → IsApartSector volume span.disk span.start → AreFree volume (now begun) chosen
    → (Clear volume (now begun) machine span → AreAvoided volume chosen (mapped_sectors (now begun) machine span))
    → WritesOnly volume chosen begun staged
    → Stages volume machine span begun staged

-- ---- what is staged

-- once the boot sector is written over what was staged, what a plan's checks accepted is written, its default line empty and
-- not in the boot sector's place
abbrev pub StagedWrittenLaw : Type 0
StagedWrittenLaw =
    (before staged : Image) (machine : Machine) (volume : Volume) (span : Span) (config : Config) (device : Device) (time : ℕ)
    (chosen : ℕ → Bool) (places : MapPlaces) (bytes : List ℕ)
    → IsSound volume before → AreDevicesApart before machine volume config device → IsApartSector volume span.disk span.start
    → IsAccepted before machine volume span config time (all_places places)
    → IsStagedMap before staged machine volume config time chosen places
    → IsNewBoot before machine volume span config time (all_places places) bytes
    → IsWritten before (with_sector staged span.disk span.start bytes) machine volume span config time Empty places
    (before span.disk span.start)
    × (places.line ≢ record { disk = span.disk; sector = span.start })

-- and so that image means what the configuration and its files do
abbrev pub StagedMeansLaw : Type 0
StagedMeansLaw =
    (before staged : Image) (machine : Machine) (volume : Volume) (span : Span) (config : Config) (device : Device) (time : ℕ)
    (chosen : ℕ → Bool) (places : MapPlaces) (bytes : List ℕ)
    → IsSound volume before → AreDevicesApart before machine volume config device → IsApartSector volume span.disk span.start
    → IsAccepted before machine volume span config time (all_places places)
    → IsStagedMap before staged machine volume config time chosen places
    → IsNewBoot before machine volume span config time (all_places places) bytes
    → Means machine span places.line (meant config (names_in volume before) (devices_in before machine))
    (with_sector staged span.disk span.start bytes)

-- ---- the Holder

-- a file that holds the table of the boot sector holds it by each path that leads to it, in an image with that boot sector in
-- which named files stay
abbrev pub HolderStaysLaw : Type 0
HolderStaysLaw =
    (old c : Image) (machine : Machine) (volume : Volume) (span : Span) (path other : List (List ℕ))
    → HasBootOf span old c → KeepsNamed volume.layout (parts_of volume old) (parts_of volume c)
    → reached volume.layout (parts_of volume c) other ≡ reached volume.layout (parts_of volume old) path
    → Holds old machine volume span path → Holds c machine volume span other

-- so it holds it by a name still where another path changed
abbrev pub HoldsBesideLaw : Type 0
HoldsBesideLaw =
    (old c : Image) (machine : Machine) (volume : Volume) (span : Span) (name path : List (List ℕ)) (found : Option ℕ)
    (what : Option Thing)
    → HasBootOf span old c → HasTreeWith volume old c path found what → name ≢ path
    → Holds old machine volume span name → Holds c machine volume span name

-- and an image is Held as before where one path changed that is neither of the map's names, or that led nowhere
abbrev pub StagedHeldLaw : Type 0
StagedHeldLaw =
    (old c : Image) (machine : Machine) (volume : Volume) (span : Span) (map path : List (List ℕ)) (found : Option ℕ)
    (what : Option Thing)
    → HasBootOf span old c → HasTreeWith volume old c path found what
    → ((path ≡ map) ⊎ (path ≡ with_tilde map) → reached volume.layout (parts_of volume old) path ≡ None)
    → Held old machine volume span map → Held c machine volume span map

-- so it is where what has a name is seen as before
abbrev pub SeenHeldLaw : Type 0
SeenHeldLaw =
    (old c : Image) (machine : Machine) (volume : Volume) (span : Span) (map : List (List ℕ))
    → IsSound volume old → HasBootOf span old c → SeenAsIn volume old c
    → Held old machine volume span map → Held c machine volume span map
