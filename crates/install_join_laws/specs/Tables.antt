-- Where a device lies is read from the tables of its disk alone (IBM PC partition table; what settling leaves of them, a rule of
-- this project's own).
use Rattle.std.specs.Prelude.{◌≡◌, ℕ, List, [], ◌∷◌, Option, None, Some}
use Rattle.std.specs.List.{AllByRecursion}
use Rattle.lilo_model.specs.Devices.{Device}
use Rattle.lilo_model.specs.Disks.{Image, Machine}
use Rattle.lilo_model.specs.MinixParts.{Volume}
use Rattle.lilo_model.specs.Partitions.{Entry, entries_of, link_of, chain_tables}
use Rattle.install_laws.specs.Writes.{IsApartSector}
use Rattle.install_join_laws.specs.ApartLaws.{LiesAsIn}

-- the sectors of the tables inside an extended partition, if there is one
abbrev pub later_tables : (ℕ → List ℕ) → ℕ → Option Entry → List ℕ
later_tables sectors size None = []
later_tables sectors size (Some outer) = chain_tables sectors size outer.start

-- the sectors of a disk's tables
abbrev pub table_sectors : Image → Machine → ℕ → List ℕ
table_sectors image machine disk = 0 ∷ later_tables (image disk) (machine.size_of disk) (link_of (entries_of (image disk 0)))

-- where they are as they were, a device of that disk lies where it lay
abbrev pub TablesLaw : Type 0
TablesLaw =
    (old c : Image) (machine : Machine) (device : Device)
    → AllByRecursion (λ sector. c device.disk sector ≡ old device.disk sector) (table_sectors old machine device.disk)
    → LiesAsIn old c machine device

-- so it does where none of them is a volume's sector past its block 0, and all else is as it was
abbrev pub OutsideTablesLaw : Type 0
OutsideTablesLaw =
    (old c : Image) (machine : Machine) (volume : Volume) (device : Device)
    → ((d s : ℕ) → IsApartSector volume d s → c d s ≡ old d s)
    → AllByRecursion (IsApartSector volume device.disk) (table_sectors old machine device.disk)
    → LiesAsIn old c machine device
