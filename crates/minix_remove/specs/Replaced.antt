-- What was chosen for a file, once a name took the place of another (a rule of this project's own). A path is a list of
-- components, the last one first.
use Rattle.std.specs.Prelude.{◌≡◌, ◌≢◌, ℕ, List, Ok}
use Rattle.disk_trait.specs.declared.disks.Disks.{Ghosts}
use Rattle.disk_trait.specs.Moments.{IsTold}
use Rattle.minix_create.specs.Chosen.{Suits, IsFreeNow, MayLinkNow}
use Rattle.minix_create.specs.declared.chosen.Chosen.{Chosen}
use Rattle.minix_remove.specs.Renamed.{Renames}
use Rattle.minix_remove.specs.Target.{IsDirectoryNow}
use Rattle.minix_zones.specs.Volume.{past_of}
use Rattle.minix_zones.specs.declared.volume.Volume.{Volume}

-- since a volume was as it is here, and sound, one name of a directory took the place of another
pub record WasRenamed {D : Type 0} {disks : Ghosts D} (start volume : Volume D disks) (directory : ℕ) (from to : List ℕ) : Type 0 where
  pub told : IsTold (past_of start)
  pub in_directory : IsDirectoryNow start directory
  pub renames : Renames start volume directory from to (Ok tt)

-- What was chosen for a file is free still: it suits the volume, and its name may be made where it might, unless it is the name
-- that took the place of another.
pub record StaysFree {D : Type 0} {disks : Ghosts D} (start volume : Volume D disks) (directory : ℕ) (to : List ℕ) (chosen : Chosen) : Type 0 where
  pub suits : Suits volume.layout volume.span chosen
  pub free : IsFreeNow start chosen → IsFreeNow volume chosen
  pub name : (outer : List (List ℕ)) → MayLinkNow start outer chosen → (chosen.directory ≡ directory → chosen.name ≢ to) → MayLinkNow volume outer chosen
