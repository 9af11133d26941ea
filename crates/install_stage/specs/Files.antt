-- A file that an installation makes, and what its making leaves (this project's own).
use Rattle.std.specs.Prelude.{ℕ, List, Result, OnOk}
use Rattle.disk_trait.specs.declared.disks.Disks.{Ghosts}
use Rattle.disk_trait.specs.Moments.{IsQuiet}
use Rattle.minix_create.specs.States.{CreatesOn}
use Rattle.minix_create.specs.declared.chosen.Chosen.{Chosen}
use Rattle.minix_choice.specs.declared.write_fault.WriteFault.{WriteFault}
use Rattle.minix_zones.specs.Volume.{past_of}
use Rattle.minix_zones.specs.declared.volume.Volume.{Volume}

-- on a volume a file was made of the blocks that are given, whole or not at all; once it is there, it is durable
pub record MakesFile {D : Type 0} {disks : Ghosts D} (start new : Volume D disks) (chosen : Chosen) (given : ℕ → List ℕ)
    (result : Result (Unit {0}) WriteFault) : Type 0 where
  pub creates : CreatesOn start new chosen given result
  pub quiet : OnOk result (IsQuiet (past_of new))
