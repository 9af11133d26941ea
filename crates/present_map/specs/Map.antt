-- What the steps over a map rest on.
use Rattle.std.specs.Prelude.{◌≡◌, ◌≤◌, List, map, length, All, IfSome, IsOk}
use Rattle.lilo_model.specs.Checks.{each}
use Rattle.lilo_model.specs.Disks.{Machine}
use Rattle.lilo_model.specs.Slots.{Slot, place_at}
use Rattle.boot_map.specs.Ranges.{IsOneSector}
use Rattle.boot_map.specs.declared.boot_sector.BootSector.{BootSector}

-- each of some slots names a sector
abbrev pub AreThere : Machine → List Slot → Type 0
AreThere machine some = IsOk (each (map (λ slot. place_at machine slot 0) some))

-- the slots of a boot sector that was read are of one sector, three of them its table's, of at most 19 names
pub record HasMapSectors (boot : BootSector) : Type 0 where
  pub line : IsOneSector boot.line
  pub message : IfSome boot.message IsOneSector
  pub table : All IsOneSector boot.table.items
  pub three : length boot.table.items ≡ 3
  pub names : boot.names ≤ 19
