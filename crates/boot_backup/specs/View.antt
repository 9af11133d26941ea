-- When an answer is what was found, and what a call leaves.
use Rattle.std.specs.Prelude.{◌≡◌, ◌≤◌, ℕ, List, Result, Ok, Err, IsOk}
use Rattle.lilo_model.specs.Disks.{DiskSector}
use Rattle.lilo_model.specs.Faults.{Rose}
use Rattle.lilo_model.specs.Refusal as refusals
use Rattle.lilo_model.specs.Refusal.{Refusal}
use Rattle.disk_trait.specs.declared.disks.Disks.{Ghosts}
use Rattle.disk_trait.specs.declared.disks.Phase.TheVariants.{Before, Commit, After}
use Rattle.disk_trait.specs.Calls.{SameOf}
use Rattle.mbr_table.specs.declared.table_fault.TableFault.{TableFault}
use Rattle.mbr_table.specs.declared.table_fault.TableFault.TheVariants as tables
use Rattle.minix_search.specs.View.{told_fault}
use Rattle.minix_tree.specs.declared.tree_fault.TreeFault.{TreeFault}
use Rattle.minix_tree.specs.declared.tree_fault.TreeFault.TheVariants as trees
use Rattle.minix_zones.specs.declared.zone_fault.ZoneFault.TheVariants as zones
use Rattle.bios_model.specs.Writes.{WritesPlace}
use Rattle.boot_backup.specs.declared.restore_fault.RestoreFault.{RestoreFault}
use Rattle.boot_backup.specs.declared.restore_fault.RestoreFault.TheVariants.{NotOurs, NoVolume, Place, Layout, Device}

-- partition tables were refused as the model refuses them; a disk that failed is reported otherwise
abbrev pub RefusesPlace : {A : Type 0} → TableFault → Result A Refusal → Type 0
RefusesPlace tables.Device found = ⊥
RefusesPlace fault found = found ≡ Err (refusals.Device (told_fault fault))

-- a fault is the refusal that was found; a disk failed before a write, or in one, and then there was something to write
abbrev pub IsFault : {A : Type 0} → RestoreFault → Result A Refusal → Type 0
IsFault NotOurs found = found ≡ Err refusals.NotOurs
IsFault NoVolume found = found ≡ Err refusals.NoVolume
IsFault (Place fault) found = RefusesPlace fault found
IsFault Layout found = found ≡ Err refusals.Layout
IsFault (Device Before) found = Unit {0}
IsFault (Device Commit) found = IsOk found
IsFault (Device After) found = ⊥

-- the bytes that were read are those that the definition gives, or are refused so
abbrev pub Gives : Result (List ℕ) RestoreFault → Result (List ℕ) Refusal → Type 0
Gives (Ok bytes) found = found ≡ Ok bytes
Gives (Err fault) found = IsFault fault found

-- the cause of a refusal of a call that only reads: where a disk failed, which is reported as `Device`, the count of faults
-- rose
abbrev pub HasCause : ℕ → ℕ → RestoreFault → Type 0
HasCause before now NotOurs = Unit {0}
HasCause before now NoVolume = Unit {0}
HasCause before now (Place tables.Device) = ⊥
HasCause before now (Place fault) = Unit {0}
HasCause before now Layout = Unit {0}
HasCause before now (Device Before) = Rose before now
HasCause before now (Device Commit) = ⊥
HasCause before now (Device After) = ⊥

-- a refusal of a path is reported so
abbrev pub IsTreeFault : TreeFault → RestoreFault → Type 0
IsTreeFault (trees.Zone zones.Device) told = told ≡ Device Before
IsTreeFault (trees.Zone fault) told = told ≡ Layout
IsTreeFault fault told = told ≡ NotOurs

-- an answer is what was found: something, or the refusal
abbrev pub Answers : Result (Unit {0}) RestoreFault → Result (List ℕ) Refusal → Type 0
Answers (Ok done) found = IsOk found
Answers (Err fault) found = IsFault fault found

-- the bytes that were found are written into a sector, as a call that writes one leaves it; where there are none,
-- nothing was done
abbrev pub WritesBytes : {D E : Type 0} → Ghosts D → D → D → DiskSector → Result (List ℕ) Refusal → Result (Unit {0}) E → Type 0
WritesBytes disks old new place (Ok bytes) result = WritesPlace disks old new place bytes result
WritesBytes disks old new place (Err refusal) result = SameOf disks old new

-- A disk failed in the write of a sector, or in the flush of it: nothing was written before it began, and from then on
-- the count of faults rose. It has written it or hasn't.
pub record LostIn {D : Type 0} (disks : Ghosts D) (old new : D) (place : DiskSector) (found : Result (List ℕ) Refusal) : Type 0 where
  -- the disks when the write began
  pub before : D
  pub same : SameOf disks old before
  pub later : disks.faults old ≤ disks.faults before
  pub writes : WritesBytes {E = Unit {0}} disks before new place found (Err tt)
  pub rose : Rose (disks.faults before) (disks.faults new)

-- A call wrote the bytes that were found into a sector and made them durable, or was refused, as nothing was found and
-- then it did nothing, or as a disk failed.
pub record Restores {D : Type 0} (disks : Ghosts D) (old new : D) (place : DiskSector) (found : Result (List ℕ) Refusal)
    (result : Result (Unit {0}) RestoreFault) : Type 0 where
  pub answer : Answers result found
  pub writes : WritesBytes disks old new place found result
  pub lost : result ≡ Err (Device Commit) → LostIn disks old new place found
