-- When a call on disks may refuse.
use Rattle.std.specs.Prelude.{◌≡◌, ◌↔◌, ◌≤◌, ℕ, Result, IsErrOf}
use Rattle.disk_trait.specs.declared.disks.DiskFault.{DiskFault}
use Rattle.disk_trait.specs.declared.disks.DiskFault.TheVariants.{Failed, OutOfRange}
use Rattle.lilo_model.specs.Faults.{Rose}

-- The cause of what a call on one sector answered: the count never falls; a sector that isn't there is out of
-- range, and then no fault is counted; a call that failed counted a fault.
pub record HasCause (size sector before now : ℕ) (result : Result (Unit {0}) DiskFault) : Type 0 where
  pub later : before ≤ now
  pub out_of_range : IsErrOf result OutOfRange ↔ (size ≤ sector)
  pub uncounted : size ≤ sector → now ≡ before
  pub failed : IsErrOf result Failed → Rose before now

-- The cause of what a flush answered.
pub record HasFlushCause (before now : ℕ) (result : Result (Unit {0}) DiskFault) : Type 0 where
  pub later : before ≤ now
  pub in_range : IsErrOf result OutOfRange → ⊥
  pub failed : IsErrOf result Failed → Rose before now
