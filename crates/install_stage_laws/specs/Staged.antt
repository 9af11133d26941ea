-- What an installation stages before its commit: the files of a new map, in zones that were free (rules of this project's
-- own).
use Rattle.std.specs.Prelude.{◌≡◌, ℕ, ◌+◌, Bool, true, false, List, length}
use Rattle.std.specs.List.{AllByRecursion}
use Rattle.lilo_model.specs.Clear.{IsOfZone}
use Rattle.lilo_model.specs.Conf.{Config}
use Rattle.lilo_model.specs.Disks.{Image, Machine, Span, DiskSector, bytes_at}
use Rattle.lilo_model.specs.Lays.{AreAt}
use Rattle.lilo_model.specs.MinixParts.{Volume, parts_of}
use Rattle.lilo_model.specs.Plan.{plan_sectors, plan_boot_sector}
use Rattle.lilo_model.specs.Planned.{planned}
use Rattle.minix_change_laws.specs.Beside.{IsDataZone}
use Rattle.map_laws.specs.Accepted.{IsInside}
use Rattle.map_laws.specs.Lies.{MapPlaces, after_line, all_places, IsNone}
use Rattle.install_laws.specs.Writes.{IsWritable}

-- an image has the bytes of another one, but in what a writer of files may write for some chosen zones
abbrev pub KeepsRest : Volume → Image → (ℕ → Bool) → Image → Type 0
KeepsRest volume before chosen c =
    (place : DiskSector) → (IsWritable volume before chosen place → ⊥) → bytes_at c place ≡ bytes_at before place

-- each chosen zone is a data zone that isn't marked as used
abbrev pub AreFree : Volume → Image → (ℕ → Bool) → Type 0
AreFree volume before chosen =
    (zone : ℕ) → chosen zone ≡ true → IsDataZone volume.layout zone × ((parts_of volume before).has_zone zone ≡ false)

-- a place is a sector of a chosen zone
pub record IsChosenPlace (volume : Volume) (chosen : ℕ → Bool) (place : DiskSector) : Type 0 where
  pub zone : ℕ
  pub sector : ℕ
  pub picked : chosen zone ≡ true
  pub of : IsOfZone zone sector
  pub is : place ≡ record { disk = volume.span.disk; sector = volume.span.start + sector }

-- The files of a map were staged: all but what a writer of files may write is as it was, the chosen zones were free, and the
-- map's sectors lie in them, each at its place; that of the default line is none of the others.
pub record IsStagedMap (before staged : Image) (machine : Machine) (volume : Volume) (config : Config) (time : ℕ)
    (chosen : ℕ → Bool) (places : MapPlaces) : Type 0 where
  pub keeps : KeepsRest volume before chosen staged
  pub free : AreFree volume before chosen
  pub whole : (place : DiskSector) → IsInside machine place → length (bytes_at staged place) ≡ 512
  pub own : AllByRecursion (IsChosenPlace volume chosen) (all_places places)
  pub apart : IsNone places.line (after_line places)
  pub lies : AreAt staged (all_places places)
      (plan_sectors (planned before machine volume config time) machine (all_places places))

-- the new boot sector: that of the plan, over the one that is there
pub record IsNewBoot (before : Image) (machine : Machine) (volume : Volume) (span : Span) (config : Config) (time : ℕ)
    (places : List DiskSector) (bytes : List ℕ) : Type 0 where
  pub long : length (before span.disk span.start) ≡ 512
  pub is : bytes ≡ plan_boot_sector (planned before machine volume config time) machine places (before span.disk span.start)
