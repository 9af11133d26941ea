-- Where a session takes place: one boot device and one volume, on disks of some sizes and shapes (this project's own).
use Rattle.std.specs.Prelude.{◌≢◌, ◌<◌, ◌≤◌, ◌⊎◌, ℕ, ◌+◌, ◌*◌}
use Rattle.lilo_model.specs.Disks.{Machine, Span, DiskSector}
use Rattle.lilo_model.specs.MinixParts.{Volume}

pub record Site : Type 0 where
  pub machine : Machine
  -- where the boot device lies
  pub boot : Span
  pub volume : Volume

-- the boot device's first sector
abbrev pub boot_place : Site → DiskSector
boot_place site = record { disk = site.boot.disk; sector = site.boot.start }

-- a sector of a disk isn't one of the volume's past its block 0
abbrev pub IsApart : Site → ℕ → ℕ → Type 0
IsApart site disk sector =
    (disk ≢ site.volume.span.disk)
    ⊎ ((sector < site.volume.span.start + 2) ⊎ (site.volume.span.start + 2 * site.volume.layout.zones ≤ sector))

-- nor is the boot device's first sector
abbrev pub IsBootApart : Site → Type 0
IsBootApart site = IsApart site site.boot.disk site.boot.start
