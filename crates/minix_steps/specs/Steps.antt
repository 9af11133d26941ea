-- When a step of a writer may be taken on a volume, and what it leaves (a rule of this project's own). What is said of
-- bytes holds where the disks report their past; where they don't, the conditions hold of themselves.
use Rattle.std.specs.Prelude.{ℕ, Option}
use Rattle.disk_trait.specs.declared.disks.Disks.{Ghosts}
use Rattle.disk_trait.specs.Past.{Image, Past}
use Rattle.disk_trait.specs.Moments.{IsTold, begun, MayLeave, LeavesOnly}
use Rattle.disk_trait.specs.Calls.{GoesOn}
use Rattle.lilo_model.specs.MinixParts as model
use Rattle.lilo_model.specs.MinixNames.{IsSound}
use Rattle.minix_change_laws.specs.Beside.{IsUnnamed, IsUnused, Beside, SoundAsIn}
use Rattle.minix_zones.specs.Volume.{volume_view, past_of, KeepsVolume}
use Rattle.minix_zones.specs.declared.volume.Volume.{Volume}

-- whatever a stop leaves is beside what was held at the last flush
abbrev pub Within : model.Volume → Option Past → Type 0
Within view past = (c : Image) → MayLeave past c → Beside view (begun past) c

-- The condition of each step: the volume was sound at the last flush, and whatever a stop leaves now is beside that.
pub record IsReady {D : Type 0} {disks : Ghosts D} (volume : Volume D disks) : Type 0 where
  pub sound : IsTold (past_of volume) → IsSound (volume_view volume) (begun (past_of volume))
  pub within : Within (volume_view volume) (past_of volume)

-- at the last flush no named inode referred to a zone
pub record IsUnusedZone {D : Type 0} {disks : Ghosts D} (volume : Volume D disks) (zone : ℕ) : Type 0 where
  pub unused : IsTold (past_of volume) → IsUnused (volume_view volume) (begun (past_of volume)) zone

-- at the last flush an inode was neither the root nor had a name
pub record IsUnnamedInode {D : Type 0} {disks : Ghosts D} (volume : Volume D disks) (number : ℕ) : Type 0 where
  pub unnamed : IsTold (past_of volume) → IsUnnamed (volume_view volume) (begun (past_of volume)) number

-- What one step or several in a row leave, also where the last one was refused.
pub record Steps {D : Type 0} {disks : Ghosts D} (old new : Volume D disks) : Type 0 where
  -- whatever a stop leaves at any moment is beside what was held at the last flush before, hence sound with the same
  -- Names
  pub any_moment : LeavesOnly (past_of old) (past_of new) (Beside (volume_view old) (begun (past_of old)))
  pub names : LeavesOnly (past_of old) (past_of new) (SoundAsIn (volume_view old) (begun (past_of old)))
  -- so is what was held at the last flush after
  pub beside : IsTold (past_of old) → Beside (volume_view old) (begun (past_of old)) (begun (past_of new))
  pub sound : IsTold (past_of old) → SoundAsIn (volume_view old) (begun (past_of old)) (begun (past_of new))
  -- the next step may be taken
  pub ready : IsReady new
  -- what no named inode used, or no name led to, is so still
  pub unused : (zone : ℕ) → IsUnusedZone old zone → IsUnusedZone new zone
  pub unnamed : (number : ℕ) → IsUnnamedInode old number → IsUnnamedInode new number
  -- what stays
  pub goes_on : GoesOn disks old.disks.now new.disks.now
  pub kept : KeepsVolume old new
