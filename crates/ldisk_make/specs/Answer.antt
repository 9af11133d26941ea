-- How what was made compares with what the definitions give.
use Rattle.std.specs.Prelude.{◌≡◌, ℕ, Bool, true, false, Option, None, IsSome, Result, Ok, Err}
use Rattle.lilo_model.specs.Disks.{Image, Span}
use Rattle.lilo_model.specs.Faults.{Rose}
use Rattle.lilo_model.specs.MinixLayout.{Kind, Super}
use Rattle.lilo_model.specs.Partitions.{TableFault}
use Rattle.disk_trait.specs.declared.disks.Span as declared
use Rattle.mbr_table.specs.declared.table_fault.TableFault as tables
use Rattle.mbr_table.specs.declared.table_fault.TableFault.TheVariants as table_faults
use Rattle.minix_zones.specs.View.{span_view}
use Rattle.ldisk_model.specs.Verdict.{Refusal, status_of}
use Rattle.minix_format.specs.Laws.{IsEmptyVolume}
use Rattle.ldisk_make.specs.declared.fault.MakeFault.{MakeFault}
use Rattle.ldisk_make.specs.declared.fault.MakeFault.TheVariants.{Misplaced, NoPlace, NoSpace, Device}

-- the exit status that reports a fault
abbrev pub fault_status : MakeFault → ℕ
fault_status Misplaced = 1
fault_status NoPlace = 3
fault_status NoSpace = 5
fault_status Device = 8

-- What was answered is what was checked, unless the disk failed.
abbrev pub Answers : {A : Type 0} → Result A Refusal → Result (Unit {0}) MakeFault → Type 0
Answers check (Ok done) = status_of check ≡ 0
Answers check (Err Misplaced) = status_of check ≡ 1
Answers check (Err NoPlace) = status_of check ≡ 3
Answers check (Err NoSpace) = status_of check ≡ 5
Answers check (Err Device) = Unit {0}

-- The sectors of a device were found as they are to be, or not, unless the disk failed.
abbrev pub Finds : Result declared.Span MakeFault → Result Span Refusal → Result Span TableFault → Type 0
Finds (Ok span) check place = (check ≡ Ok (span_view span)) × (place ≡ Ok (span_view span))
Finds (Err Device) check place = Unit {0}
Finds (Err fault) check place = (status_of check ≡ fault_status fault) × (status_of check ≡ 3)

-- how it is reported that a device can't be found
abbrev pub IsPlaceFault : tables.TableFault → MakeFault → Type 0
IsPlaceFault table_faults.Device fault = fault ≡ Device
IsPlaceFault refused fault = fault ≡ NoPlace

-- There was room for a volume, or none, unless the disk failed.
abbrev pub IsFormatted : Option Super → Result (Unit {0}) MakeFault → Type 0
IsFormatted layout (Ok done) = IsSome layout
IsFormatted layout (Err NoSpace) = layout ≡ None
IsFormatted layout (Err Device) = Unit {0}
IsFormatted layout (Err fault) = ⊥

-- where the disk failed, the count of faults rose
abbrev pub HasMakeCause : ℕ → ℕ → MakeFault → Type 0
HasMakeCause before now Device = Rose before now
HasMakeCause before now fault = Unit {0}

-- the fault is no failure of the disk
abbrev pub is_refusal : MakeFault → Bool
is_refusal Device = false
is_refusal fault = true

-- an image has an empty volume in the sectors of a device, where these can be found
abbrev pub HasEmptyVolume : Result Span TableFault → Kind → ℕ → Image → Type 0
HasEmptyVolume (Ok span) kind inodes image = IsEmptyVolume span kind inodes image
HasEmptyVolume (Err fault) kind inodes image = Unit {0}
