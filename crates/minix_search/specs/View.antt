-- Which plain value of the model each value of this crate stands for, and when an answer is the model's.
use Rattle.std.specs.Prelude.{◌≡◌, ◌≤◌, ℕ, ◌+◌, ◌==◌, Bool, false, Option, None, Some, Result, Ok, Err}
use Rattle.disk_trait.specs.declared.disks.Span.{Span}
use Rattle.lilo_model.specs.Partitions.{device_fault}
use Rattle.lilo_model.specs.Refusal.{DeviceFault}
use Rattle.lilo_model.specs.VolumeSearch as model
use Rattle.mbr_table.specs.View.{device_view, span_view, table_fault_view}
use Rattle.mbr_table.specs.declared.table_fault.TableFault.{TableFault}
use Rattle.mbr_table.specs.declared.table_fault.TableFault.TheVariants as faults
use Rattle.minix_search.specs.declared.search.Located.{Located}
use Rattle.minix_search.specs.declared.volume_fault.VolumeFault.{VolumeFault}
use Rattle.minix_search.specs.declared.volume_fault.VolumeFault.TheVariants.{NoVolume, Place}

-- a device, and where it lies
abbrev pub located_view : Located → model.Located
located_view found = record { device = device_view found.device; span = span_view found.span }

-- how a refusal of partition tables is reported
abbrev pub told_fault : TableFault → DeviceFault
told_fault fault = device_fault (table_fault_view fault)

-- what was given is a refusal, unless a disk failed
abbrev pub Tells : {A : Type 0} → TableFault → (DeviceFault → A) → A → Type 0
Tells faults.Device told given = Unit {0}
Tells fault told given = given ≡ told (told_fault fault)

-- whether a refusal says that a disk's sector 0 is no table
abbrev pub has_no_table : TableFault → Bool
has_no_table (faults.NoSignature sector) = sector == 0
has_no_table fault = false

-- a search ended where the model's does, unless a disk failed
abbrev pub Ends : Result (Option Located) TableFault → Option (Result model.Located DeviceFault) → Type 0
Ends (Ok None) end = end ≡ None
Ends (Ok (Some found)) end = end ≡ Some (Ok (located_view found))
Ends (Err fault) end = Tells fault (λ told. Some (Err told)) end

-- what was answered is what the model gives, unless a disk failed
abbrev pub Gives : Result Located VolumeFault → Result model.Located model.VolumeFault → Type 0
Gives (Ok found) given = given ≡ Ok (located_view found)
Gives (Err NoVolume) given = given ≡ Err model.NoVolume
Gives (Err (Place fault)) given = Tells fault (λ told. Err (model.Place told)) given

-- sectors lie on a disk of this size and have room for a volume
pub record HasRoom (size : ℕ) (span : Span) : Type 0 where
  pub ends : span.start + span.count ≤ size
  pub room : 4 ≤ span.count
