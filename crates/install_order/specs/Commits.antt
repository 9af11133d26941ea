-- What a commit leaves: it writes one sector of a disk and flushes, from a quiet moment to a quiet one (a rule of this
-- project's own).
use Rattle.std.specs.Prelude.{◌≡◌, ◌⊎◌, ℕ, List, Result, OnOk, OnErr, IfErr}
use Rattle.disk_trait.specs.declared.disks.Disks.{Ghosts}
use Rattle.disk_trait.specs.declared.disks.Span.{Span}
use Rattle.disk_trait.specs.declared.disks.DiskFault.{DiskFault}
use Rattle.disk_trait.specs.declared.disks.DiskFault.TheVariants.{Failed}
use Rattle.disk_trait.specs.Past.{with_sector}
use Rattle.disk_trait.specs.Moments.{IsTold, now, begun, IsQuiet, LeavesOnly}
use Rattle.disk_trait.specs.NotWritten.{WritesNoOther}
use Rattle.disk_trait.specs.Calls.{GoesOn}
use Rattle.lilo_model.specs.Faults.{Rose}
use Rattle.lilo_model.specs.MinixNames.{IsSound}
use Rattle.minix_zones.specs.View.{span_view}
use Rattle.minix_zones.specs.Volume.{volume_view, past_of, faults_of, KeepsVolume}
use Rattle.minix_zones.specs.declared.volume.Volume.{Volume}
use Rattle.minix_change_laws.specs.Beside.{SoundAsIn}
use Rattle.install_laws.specs.Boots.{IsWithOrWithout}
use Rattle.install_laws.specs.Writes.{IsApartSector}

-- A call wrote these bytes into the first sector of a span and flushed. One that was refused, as the disk failed, has
-- written them or hasn't.
pub record Commits {D : Type 0} {disks : Ghosts D} (old new : Volume D disks) (boot : Span) (bytes : List ℕ)
    (result : Result (Unit {0}) DiskFault) : Type 0 where
  -- whatever a stop leaves, at any moment of it, is what was held before, or has the sector too
  pub any_moment : IsQuiet (past_of old) → LeavesOnly (past_of old) (past_of new) (IsWithOrWithout (now (past_of old)) (span_view boot) bytes)
  -- what the disks hold now
  pub written : IsTold (past_of old) → OnOk result (now (past_of new) ≡ with_sector (now (past_of old)) boot.disk boot.start bytes)
  pub made : (now (past_of new) ≡ with_sector (now (past_of old)) boot.disk boot.start bytes) ⊎ (now (past_of new) ≡ now (past_of old))
  -- and what a stop leaves then
  pub quiet : OnOk result (IsQuiet (past_of new))
  pub durable : OnOk result (begun (past_of new) ≡ now (past_of new))
  pub unflushed : OnErr result (begun (past_of new) ≡ begun (past_of old))
  -- it wrote no other sector
  pub others : WritesNoOther boot.disk boot.start (past_of old) (past_of new)
  -- the volume stays sound in whatever is left, with the same Names, where the sector is none of its own past block 0
  pub sound : IsQuiet (past_of old) → IsSound (volume_view old) (now (past_of old)) → IsApartSector (volume_view old) boot.disk boot.start
      → LeavesOnly (past_of old) (past_of new) (SoundAsIn (volume_view old) (now (past_of old)))
  -- when it is refused, and what stays
  pub failed : IfErr result (λ fault. (fault ≡ Failed) × Rose (faults_of old) (faults_of new))
  pub goes_on : GoesOn disks old.disks.now new.disks.now
  pub kept : KeepsVolume old new
