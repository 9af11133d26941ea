-- How an installation begins: what is apart where a configuration is, and what a run that settles leaves of the present
-- map (rules of this project's own).
use Rattle.std.specs.Prelude.{◌≡◌, ◌≢◌, ℕ, Bool, false, IfSome, List, Option, Ok}
use Rattle.disk_trait.specs.Past.{Past}
use Rattle.disk_trait.specs.Moments.{IsTold, now, IsQuiet, LeavesOnly}
use Rattle.disk_trait.specs.NotWritten.{NotWritten}
use Rattle.lilo_model.specs.Apart.{Apart}
use Rattle.lilo_model.specs.Clear.{Clear}
use Rattle.lilo_model.specs.Conf.{Config}
use Rattle.lilo_model.specs.Devices.{Device}
use Rattle.lilo_model.specs.Disks.{Image, Machine, Span, DiskSector, bytes_at}
use Rattle.lilo_model.specs.Mapped.{mapped_sectors}
use Rattle.lilo_model.specs.MinixNames.{names_in, Named, Refers, IsSound}
use Rattle.lilo_model.specs.MinixParts.{Volume, Pointer, parts_of, is_directory}
use Rattle.lilo_model.specs.NamePlaces.{with_tilde}
use Rattle.lilo_model.specs.Partitions.{span_of}
use Rattle.lilo_model.specs.Settled.{OwnNames, is_foreign, own_names}
use Rattle.boot_laws.specs.SameOn.{SameOn}
use Rattle.install_laws.specs.Boots.{SparesMapped, HasBootOf}
use Rattle.install_laws.specs.Writes.{IsWritable, IsApartSector, WritesOnly}
use Rattle.install_stage_laws.specs.Marked.{KeepsMarked}

-- ---- what is apart

-- a path is neither that of a map nor that with `~`
abbrev pub IsNoneOfMap : List (List ℕ) → List (List ℕ) → Type 0
IsNoneOfMap map path = (path ≢ with_tilde map) × (path ≢ map)

-- no path of a backup, with `~` or without, is one of the map's
abbrev pub ApartBackupLaw : Type 0
ApartBackupLaw =
    (image : Image) (machine : Machine) (volume : Volume) (config : Config) (device : Device) (foreign : Bool) (names : OwnNames)
    → Apart image machine volume config device → own_names (names_in volume image) config device foreign ≡ Ok names
    → IfSome names.backup (λ backup. IsNoneOfMap names.map backup × IsNoneOfMap names.map (with_tilde backup))

-- the first sector of the boot device isn't one of the volume's past its block 0
abbrev pub ApartBootLaw : Type 0
ApartBootLaw =
    (image : Image) (machine : Machine) (volume : Volume) (config : Config) (device : Device) (span : Span)
    → IsSound volume image → Apart image machine volume config device → span_of image machine device ≡ Ok span
    → IsApartSector volume span.disk span.start

-- ---- what is left

-- a run that begins quiet and writes no sector outside a volume, nor of its block 0, leaves those as they were
abbrev pub OutsideStaysLaw : Type 0
OutsideStaysLaw =
    (volume : Volume) (entry begun : Option Past)
    → IsQuiet entry → ((d s : ℕ) → IsApartSector volume d s → NotWritten entry begun d s)
    → LeavesOnly entry begun (λ c. (d s : ℕ) → IsApartSector volume d s → c d s ≡ now entry d s)

-- an image has the bytes of another one, but in what a writer of files may write, in no new zone
abbrev pub WritesNothingElse : Volume → Image → Image → Type 0
WritesNothingElse volume old c =
    (place : DiskSector) → (IsWritable volume old (λ zone. false) place → ⊥) → bytes_at c place ≡ bytes_at old place

-- it has the sectors of a Clear map as they were, or at least another system's boot sector
abbrev pub SparedLaw : Type 0
SparedLaw =
    (volume : Volume) (machine : Machine) (span : Span) (old c : Image)
    → HasBootOf span old c → (is_foreign (old span.disk span.start) ≡ false → WritesNothingElse volume old c)
    → Clear volume old machine span → SameOn (mapped_sectors old machine span) old c

-- ---- Clear again

-- each named inode of an image is named in another one, refers only to what it referred to there, and is of the same kind; and
-- what is marked was so there
pub record GainsNothing (volume : Volume) (old new : Image) : Type 0 where
  pub named : (number : ℕ) → Named volume.layout (parts_of volume new) number → Named volume.layout (parts_of volume old) number
  pub refers : (number : ℕ) (at : Pointer) (zone : ℕ) → Refers volume.layout (parts_of volume new) number at zone
      → Refers volume.layout (parts_of volume old) number at zone
  pub kinds : (number : ℕ) → Named volume.layout (parts_of volume new) number
      → is_directory ((parts_of volume new).node number) ≡ is_directory ((parts_of volume old).node number)
  pub marked : KeepsMarked volume.layout (parts_of volume old) (parts_of volume new)

-- so a map whose sectors are as they were is Clear again
abbrev pub ClearAgainLaw : Type 0
ClearAgainLaw =
    (volume : Volume) (machine : Machine) (span : Span) (old new : Image)
    → Clear volume old machine span → SameOn (mapped_sectors old machine span) old new → GainsNothing volume old new
    → Clear volume new machine span

-- ---- what the headline asks of the beginning

-- a run that settles: it begins quiet, writes no sector outside the volume, nor of its block 0, and, unless the boot sector is
-- another system's, only what a writer of files may, in no new zone; no inode gains a zone
pub record IsSettlingRun (volume : Volume) (span : Span) (entry begun : Option Past) : Type 0 where
  pub told : IsTold begun
  pub quiet : IsQuiet entry
  pub outside : (d s : ℕ) → IsApartSector volume d s → NotWritten entry begun d s
  pub writes : is_foreign (now entry span.disk span.start) ≡ false → WritesOnly volume (λ zone. false) entry begun
  pub gains : GainsNothing volume (now entry) (now begun)

-- what install_laws' `Installs` asks of an installation's beginning
pub record Begins (volume : Volume) (machine : Machine) (span : Span) (entry begun : Option Past) : Type 0 where
  pub begin : Clear volume (now entry) machine span → SparesMapped machine span entry begun
  pub begin_clear : Clear volume (now entry) machine span → Clear volume (now begun) machine span
  pub begin_boot : LeavesOnly entry begun (HasBootOf span (now entry))

-- it promises that, where the boot sector lies outside the volume or in its block 0
abbrev pub BeginsLaw : Type 0
BeginsLaw =
    (volume : Volume) (machine : Machine) (span : Span) (entry begun : Option Past)
    → IsSettlingRun volume span entry begun → IsApartSector volume span.disk span.start
    → Begins volume machine span entry begun
