-- How what was read from disks compares with what the model gives.
use Rattle.std.specs.Prelude.{◌≡◌, ℕ, ◌==◌, Bool, true, false, Result, Ok, Err}
use Rattle.lilo_model.specs.Partitions as model
use Rattle.mbr_table.specs.declared.table_fault.TableFault.{TableFault}
use Rattle.mbr_table.specs.declared.table_fault.TableFault.TheVariants.{NoSignature, OutsideDisk, LoopedChain, TooMany, UnknownDevice, NoPartition, NoDisk}
use Rattle.mbr_table.specs.declared.table_fault.TableFault.TheVariants.{Device}

-- a refusal is what the model gives, unless the disk failed
abbrev pub Refuses : {B : Type 0} → TableFault → Result B model.TableFault → Type 0
Refuses Device given = Unit {0}
Refuses (NoSignature sector) given = given ≡ Err (model.NoSignature sector)
Refuses (OutsideDisk number) given = given ≡ Err (model.OutsideDisk number)
Refuses (LoopedChain sector) given = given ≡ Err (model.LoopedChain sector)
Refuses TooMany given = given ≡ Err model.TooMany
Refuses UnknownDevice given = given ≡ Err model.UnknownDevice
Refuses (NoPartition number) given = given ≡ Err (model.NoPartition number)
Refuses (NoDisk disk) given = given ≡ Err (model.NoDisk disk)

-- what was read, seen by view, is what the model gives, unless the disk failed
abbrev pub Gives : {A B : Type 0} → (A → B) → Result A TableFault → Result B model.TableFault → Type 0
Gives view (Ok value) given = given ≡ Ok (view value)
Gives view (Err fault) given = Refuses fault given

-- whether a refusal is one of what tables say
abbrev pub is_of_tables : TableFault → Bool
is_of_tables (NoSignature sector) = true
is_of_tables (OutsideDisk number) = true
is_of_tables (LoopedChain sector) = true
is_of_tables TooMany = true
is_of_tables fault = false

-- whether a refusal is one of a disk that is there
abbrev pub is_of_disk : TableFault → Bool
is_of_disk Device = true
is_of_disk fault = is_of_tables fault

-- whether a refusal is one of a partition of this number, on a disk that is there
abbrev pub is_of_device : ℕ → TableFault → Bool
is_of_device partition (NoPartition number) = number == partition
is_of_device partition fault = is_of_disk fault
