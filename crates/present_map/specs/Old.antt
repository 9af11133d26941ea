-- The present map, as far as it lies on a volume (this project's own).
use Rattle.std.specs.Prelude.{◌≡◌, ℕ, Bool}
use Rattle.lilo_model.specs.Disks.{Image, Machine, Span}
use Rattle.lilo_model.specs.Faults.{Rose}
use Rattle.lilo_model.specs.Mapped.{mapped_sectors}
use Rattle.lilo_model.specs.MinixParts.{Volume}
use Rattle.lilo_model.specs.Settled.{is_foreign}
use Rattle.minix_steps.specs.Numbers.{has_number}
use Rattle.install_laws.specs.InstallVerdict.{is_of_places}
use Rattle.present_map.specs.declared.old_map.OldMapFault.{OldMapFault}
use Rattle.present_map.specs.declared.old_map.OldMapFault.TheVariants.{Device, Memory}
use Rattle.present_map.specs.Zones.{Met}

-- what was read of it: whether the boot sector is another system's, and the volume's zones with a sector that a boot
-- may look at
pub record Old : Type 0 where
  pub foreign : Bool
  pub met : Met

-- it is that of the boot sector at a span's start
pub record IsOldMap (volume : Volume) (image : Image) (machine : Machine) (span : Span) (old : Old) : Type 0 where
  pub foreign : old.foreign ≡ is_foreign (image span.disk span.start)
  pub same_volume : old.met.volume ≡ volume
  pub zones : (zone : ℕ) → has_number old.met.zones zone ≡ is_of_places volume (mapped_sectors image machine span) zone

-- the cause of a refusal: where a disk failed, the count of faults rose
abbrev pub HasOldMapCause : ℕ → ℕ → OldMapFault → Type 0
HasOldMapCause before now Device = Rose before now
HasOldMapCause before now Memory = Unit {0}
