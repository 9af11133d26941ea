-- What was staged, once its boot sector is written (rules of this project's own).
use Rattle.std.specs.Prelude.{◌≡◌, ◌⊎◌, ◌<◌, ◌≤◌, ℕ, ◌*◌, Bool, false, List, length, Option, Some}
use Rattle.disk_trait.specs.Past.{Past, with_sector}
use Rattle.disk_trait.specs.Moments.{now, LeavesOnly}
use Rattle.lilo_model.specs.Conf.{Config}
use Rattle.lilo_model.specs.Devices.{Device}
use Rattle.lilo_model.specs.Disks.{Image, Machine, Span, DiskSector}
use Rattle.lilo_model.specs.Lays.{Lays}
use Rattle.lilo_model.specs.Meant.{meant}
use Rattle.lilo_model.specs.MinixNames.{names_in, reached, IsSound}
use Rattle.lilo_model.specs.MinixParts.{Volume, parts_of, sector_of}
use Rattle.lilo_model.specs.NamePlaces.{with_tilde}
use Rattle.lilo_model.specs.Plan.{Plan}
use Rattle.lilo_model.specs.Planned.{devices_in, planned}
use Rattle.minix_change_laws.specs.Sees.{SeenAsIn}
use Rattle.minix_change_laws.specs.Tree.{KeepsNamed}
use Rattle.map_laws.specs.Accepted.{IsAccepted}
use Rattle.map_laws.specs.MapLays.{HoldsMap}
use Rattle.map_laws.specs.Lies.{MapPlaces, all_places}
use Rattle.install_laws.specs.Headline.{Means}
use Rattle.install_laws.specs.Writes.{IsApartSector, WritesOnly}
use Rattle.install_stage_laws.specs.Mapped.{KeepsMapped}
use Rattle.install_stage_laws.specs.Devices.{AreDevicesApart}
use Rattle.install_stage_laws.specs.Staged.{IsStagedMap, IsNewBoot}

-- where the sectors of a volume past its block 0 are as they were, and all are whole, what has a name is seen as before
abbrev pub SectorsSeenLaw : Type 0
SectorsSeenLaw =
    (volume : Volume) (old c : Image) → IsSound volume old
    → ((sector : ℕ) → sector < 2 * volume.layout.zones → length (sector_of volume c sector) ≡ 512)
    → ((sector : ℕ) → 2 ≤ sector → sector < 2 * volume.layout.zones → sector_of volume c sector ≡ sector_of volume old sector)
    → SeenAsIn volume old c

-- so it is once a boot sector is written that is none of these
abbrev pub CommitSeenLaw : Type 0
CommitSeenLaw =
    (volume : Volume) (staged : Image) (span : Span) (bytes : List ℕ)
    → IsSound volume staged → IsApartSector volume span.disk span.start → length bytes ≡ 512
    → SeenAsIn volume staged (with_sector staged span.disk span.start bytes)

-- a map's places are those of its file still where named files stay, by whichever of the two names leads there
abbrev pub HoldsMapStaysLaw : Type 0
HoldsMapStaysLaw =
    (volume : Volume) (old c : Image) (machine : Machine) (plan : Plan) (path : List (List ℕ)) (places : List DiskSector)
    → IsSound volume old → IsSound volume c → KeepsNamed volume.layout (parts_of volume old) (parts_of volume c)
    → (h : HoldsMap old machine volume plan path places)
    → (reached volume.layout (parts_of volume c) path ≡ Some h.holder) ⊎ (reached volume.layout (parts_of volume c) (with_tilde path) ≡ Some h.holder)
    → HoldsMap c machine volume plan path places

-- so they are once that boot sector is written
abbrev pub CommitHoldsLaw : Type 0
CommitHoldsLaw =
    (volume : Volume) (staged : Image) (span : Span) (bytes : List ℕ) (machine : Machine) (plan : Plan) (path : List (List ℕ))
    (places : List DiskSector)
    → IsSound volume staged → IsApartSector volume span.disk span.start → length bytes ≡ 512
    → HoldsMap staged machine volume plan path places
    → HoldsMap (with_sector staged span.disk span.start bytes) machine volume plan path places

-- A new map is staged for what a plan's checks accepted: its files' sectors lie, the files that are mapped are there still, and
-- its places are those of a file of its own.
pub record IsStaged (before staged : Image) (machine : Machine) (volume : Volume) (span : Span) (config : Config) (device : Device)
    (time : ℕ) (chosen : ℕ → Bool) (places : MapPlaces) (bytes : List ℕ) (path : List (List ℕ)) : Type 0 where
  pub sound : IsSound volume before
  pub apart : AreDevicesApart before machine volume config device
  pub outside : IsApartSector volume span.disk span.start
  pub accepted : IsAccepted before machine volume span config time (all_places places)
  pub map : IsStagedMap before staged machine volume config time chosen places
  pub boot : IsNewBoot before machine volume span config time (all_places places) bytes
  pub files : KeepsMapped volume config before staged
  pub holds : HoldsMap staged machine volume (planned before machine volume config time) path (all_places places)

-- then the image has Lays once the boot sector is written
abbrev pub StagedLaysLaw : Type 0
StagedLaysLaw =
    (before staged : Image) (machine : Machine) (volume : Volume) (span : Span) (config : Config) (device : Device) (time : ℕ)
    (chosen : ℕ → Bool) (places : MapPlaces) (bytes : List ℕ) (path : List (List ℕ))
    → IsStaged before staged machine volume span config device time chosen places bytes path
    → Lays (with_sector staged span.disk span.start bytes) machine volume span (planned before machine volume config time) path
    (before span.disk span.start)

-- and a run from there that writes only what a writer of files may, in no new zone, leaves at every moment what means the
-- configuration: what install_laws' `Installs` asks of tidying
abbrev pub StagedTidiesLaw : Type 0
StagedTidiesLaw =
    (before : Image) (machine : Machine) (volume : Volume) (span : Span) (config : Config) (device : Device) (time : ℕ)
    (chosen : ℕ → Bool) (places : MapPlaces) (bytes : List ℕ) (path : List (List ℕ))
    (staged committed tidied : Option Past)
    → IsStaged before (now staged) machine volume span config device time chosen places bytes path
    → now committed ≡ with_sector (now staged) span.disk span.start bytes
    → WritesOnly volume (λ zone. false) committed tidied
    → LeavesOnly committed tidied (Means machine span places.line (meant config (names_in volume before) (devices_in before machine)))

-- each image that such a run leaves has Lays, where the map's places are still those of its file
abbrev pub TidiedLaysLaw : Type 0
TidiedLaysLaw =
    (before : Image) (machine : Machine) (volume : Volume) (span : Span) (config : Config) (device : Device) (time : ℕ)
    (chosen : ℕ → Bool) (places : MapPlaces) (bytes : List ℕ) (path : List (List ℕ))
    (staged committed tidied : Option Past)
    → IsStaged before (now staged) machine volume span config device time chosen places bytes path
    → now committed ≡ with_sector (now staged) span.disk span.start bytes
    → WritesOnly volume (λ zone. false) committed tidied
    → LeavesOnly committed tidied (λ c.
    HoldsMap c machine volume (planned before machine volume config time) path (all_places places)
    → Lays c machine volume span (planned before machine volume config time) path (before span.disk span.start))
