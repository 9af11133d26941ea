-- What a call leaves for those who look by name: nothing new, or one path changed whole.
use Rattle.std.specs.Prelude.{◌⊎◌, ℕ, List, Option, Result, Ok, OnOk}
use Rattle.disk_trait.specs.declared.disks.Disks.{Ghosts}
use Rattle.disk_trait.specs.Calls.{GoesOn}
use Rattle.disk_trait.specs.Past.{Image}
use Rattle.disk_trait.specs.Moments.{IsTold, now, LeavesOnly}
use Rattle.lilo_model.specs.MinixNames.{Thing}
use Rattle.lilo_model.specs.MinixParts as model
use Rattle.minix_change_laws.specs.Sees.{SeenAsIn}
use Rattle.minix_change_laws.specs.Tree.{HasTreeWith}
use Rattle.minix_zones.specs.Volume.{volume_view, past_of, KeepsVolume}
use Rattle.minix_zones.specs.declared.volume.Volume.{Volume}
use Rattle.minix_zones.specs.declared.zone_fault.ZoneFault.{ZoneFault}

-- No name sees what a call leaves, at any moment of it and after it: the volume is sound, and what has a name is seen
-- as before.
pub record Unseen {D : Type 0} {disks : Ghosts D} (old new : Volume D disks) : Type 0 where
  pub any_moment : LeavesOnly (past_of old) (past_of new) (SeenAsIn (volume_view old) (now (past_of old)))
  pub held : IsTold (past_of old) → SeenAsIn (volume_view old) (now (past_of old)) (now (past_of new))
  -- what stays
  pub goes_on : GoesOn disks old.disks.now new.disks.now
  pub kept : KeepsVolume old new

-- in an image what has a name is seen as in another, or its tree is that one's but for what one path leads to
abbrev pub SeenOrWith : model.Volume → Image → List (List ℕ) → Option ℕ → Option Thing → Image → Type 0
SeenOrWith volume old path found what c = SeenAsIn volume old c ⊎ HasTreeWith volume old c path found what

-- A call changes what one path leads to: what it leaves, at any moment of it and after it, is seen as before or has the
-- change whole, and once it is done it has it.
pub record LeadsPath {D E : Type 0} {disks : Ghosts D} (old new : Volume D disks) (path : List (List ℕ)) (found : Option ℕ) (what : Option Thing)
    (result : Result (Unit {0}) E) : Type 0 where
  pub any_moment : LeavesOnly (past_of old) (past_of new) (SeenOrWith (volume_view old) (now (past_of old)) path found what)
  pub held : IsTold (past_of old) → SeenOrWith (volume_view old) (now (past_of old)) path found what (now (past_of new))
  pub done : IsTold (past_of old) → OnOk result (HasTreeWith (volume_view old) (now (past_of old)) (now (past_of new)) path found what)
  -- what stays
  pub goes_on : GoesOn disks old.disks.now new.disks.now
  pub kept : KeepsVolume old new

-- a later call's change of a path is one from an earlier moment on
abbrev pub LeadsAfter : {D : Type 0} {disks : Ghosts D} → Volume D disks → Volume D disks → Volume D disks → Type 0
LeadsAfter old mid new =
    (path : List (List ℕ)) (found : Option ℕ) (what : Option Thing) (result : Result (Unit {0}) ZoneFault)
    → LeadsPath mid new path found what result → LeadsPath old new path found what result

-- a change of a path that was made is there at a later moment too
abbrev pub StaysLed : {D : Type 0} {disks : Ghosts D} → Volume D disks → Volume D disks → Volume D disks → Type 0
StaysLed old mid new =
    (path : List (List ℕ)) (found : Option ℕ) (what : Option Thing)
    → LeadsPath {E = ZoneFault} old mid path found what (Ok tt) → LeadsPath {E = ZoneFault} old new path found what (Ok tt)
