-- An inode of which a name is gone: it gets a link less, or is freed (a rule of this project's own).
use Rattle.std.specs.Prelude.{◌≡◌, ◌≤◌, ◌<◌, ◌+◌, ◌-◌, ℕ, true, Result, OnOk, IfErr}
use Rattle.disk_trait.specs.declared.disks.Disks.{Ghosts}
use Rattle.disk_trait.specs.Moments.{IsTold, now}
use Rattle.disk_trait.specs.NotWritten.{NotWritten}
use Rattle.lilo_model.specs.MinixLayout.{Inode, is_size}
use Rattle.lilo_model.specs.MinixNames.{PointsTo, IsSound}
use Rattle.lilo_model.specs.MinixParts as model
use Rattle.lilo_model.specs.MinixParts.{Parts, Pointer, has_zones}
use Rattle.minix_change_laws.specs.Beside.{IsDataZone}
use Rattle.minix_change_laws.specs.Enter.{IsLeft}
use Rattle.minix_fill.specs.Freed.{FreesFile, IsOffFile}
use Rattle.minix_change_laws.specs.Changes.{AreEnough, ChangesNode}
use Rattle.minix_layout.specs.View.{kind_view, super_view}
use Rattle.minix_change_laws.specs.Sees.{with_links}
use Rattle.minix_steps.specs.Written.{parts_now}
use Rattle.minix_turns.specs.Joined.{Unseen}
use Rattle.minix_zones.specs.View.{HasZoneCause}
use Rattle.minix_zones.specs.Volume.{volume_view, past_of, faults_of, HasDeviceCause}
use Rattle.minix_zones.specs.declared.volume.Volume.{Volume}
use Rattle.minix_zones.specs.declared.zone_fault.ZoneFault.{ZoneFault}
use Rattle.minix_zones.specs.declared.zone_fault.ZoneFault.TheVariants.{Device}

-- the volume is sound now, an inode is what is said, and points to data zones; one link less is enough for its names, and
-- where it has but one link it has no name
pub record MayRelease {D : Type 0} {disks : Ghosts D} (volume : Volume D disks) (number : ℕ) (inode : Inode) : Type 0 where
  pub sound : IsSound (volume_view volume) (now (past_of volume))
  pub is : (parts_now volume).node number ≡ inode
  pub sized : is_size (kind_view volume.layout.kind) inode.size ≡ true
  pub kind : has_zones inode ≡ true
  pub enough : (links : ℕ) → inode.links ≡ links + 1 → AreEnough (super_view volume.layout) (parts_now volume) number links
  pub left : inode.links ≤ 1 → IsLeft (super_view volume.layout) (parts_now volume) number
  pub range : (at : Pointer) (zone : ℕ) → PointsTo (super_view volume.layout) (parts_now volume) number at zone → IsDataZone (super_view volume.layout) zone

-- its links are one less, or it is freed with its zones
pub record LetsGo (number : ℕ) (inode : Inode) (volume : model.Volume) (old new : Parts) : Type 0 where
  pub lowered : 1 < inode.links → ChangesNode volume.layout old new number (with_links inode (inode.links - 1))
  pub freed : inode.links ≤ 1 → FreesFile number volume old new

-- No name sees it, and no sector but those of the bitmaps and the one with the inode was written; it was refused as the
-- disk failed.
pub record Releases {D : Type 0} {disks : Ghosts D} (old new : Volume D disks) (number : ℕ) (inode : Inode)
    (result : Result (Unit {0}) ZoneFault) : Type 0 where
  pub unseen : Unseen old new
  pub changed : IsTold (past_of old) → OnOk result (LetsGo number inode (volume_view old) (parts_now old) (parts_now new))
  pub others : (d s : ℕ) → IsOffFile old number d s → NotWritten (past_of old) (past_of new) d s
  pub device : IsTold (past_of old) → HasDeviceCause old new Device result
  pub cause : IfErr result (HasZoneCause (faults_of old) (faults_of new))
