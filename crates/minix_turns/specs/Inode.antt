-- Turns of an inode, and which of them no name sees.
use Rattle.std.specs.Prelude.{◌≡◌, ◌≤◌, ◌<◌, ◌+◌, ◌^◌, ℕ, if◌then◌else◌, List, [], Result}
use Rattle.disk_trait.specs.declared.disks.Disks.{Ghosts}
use Rattle.disk_trait.specs.Moments.{now}
use Rattle.lilo_model.specs.MinixLayout.{Kind, Super, Inode, is_v1, inode_place, number_size}
use Rattle.lilo_model.specs.MinixNames.{Named, Sound, IsSound}
use Rattle.lilo_model.specs.MinixParts.{Parts}
use Rattle.minix_change_laws.specs.Enter.{HasLinkMore}
use Rattle.minix_change_laws.specs.Changes.{AreEnough, MaySize, MayHook}
use Rattle.minix_change_laws.specs.Grows.{pointer_at, Deeper}
use Rattle.minix_layout.specs.View.{super_view}
use Rattle.minix_steps.specs.Written.{inode_rewritten, parts_now}
use Rattle.minix_turns.specs.Turns.{Turns}
use Rattle.minix_zones.specs.Volume.{volume_view, past_of}
use Rattle.minix_zones.specs.declared.volume.Volume.{Volume}

-- a call wrote an inode into its sector, and flushed
abbrev pub TurnsInode : {D E : Type 0} {disks : Ghosts D} → Volume D disks → Volume D disks → ℕ → Inode → E → Result (Unit {0}) E → Type 0
TurnsInode old new number inode error result =
    Turns old new (inode_place (super_view old.layout) number).sector (inode_rewritten old number inode) error result

-- how many numbers of zones the bytes of an inode have
abbrev pub tops : Kind → ℕ
tops kind = if is_v1 kind then 9 else 10

-- one of them may be a zone
pub record FitsTop (kind : Kind) (top zone : ℕ) : Type 0 where
  pub low : top < tops kind
  pub small : zone < 256 ^ number_size kind

-- ---- what no name sees

-- the volume is sound now, and an inode that has a name is the one with this number
pub record IsNamedNow {D : Type 0} {disks : Ghosts D} (volume : Volume D disks) (number : ℕ) (inode : Inode) : Type 0 where
  pub sound : IsSound (volume_view volume) (now (past_of volume))
  pub is : (parts_now volume).node number ≡ inode
  pub named : Named (super_view volume.layout) (parts_now volume) number

-- so many links are enough for its names
pub record MayHaveLinks {D : Type 0} {disks : Ghosts D} (volume : Volume D disks) (number : ℕ) (inode : Inode) (links : ℕ) : Type 0 where
  pub lies : IsNamedNow volume number inode
  pub enough : AreEnough (super_view volume.layout) (parts_now volume) number links

-- it is a directory that may have this size
pub record MayHaveSize {D : Type 0} {disks : Ghosts D} (volume : Volume D disks) (number : ℕ) (inode : Inode) (size : ℕ) : Type 0 where
  pub lies : IsNamedNow volume number inode
  pub sized : MaySize (super_view volume.layout) (parts_now volume) number size

-- it is a directory that may get a zone by one of the inode's own numbers, with those further down, and this size
pub record MayHaveTop {D : Type 0} {disks : Ghosts D} (volume : Volume D disks) (number : ℕ) (inode : Inode) (top zone size : ℕ)
    (more : List Deeper) : Type 0 where
  pub lies : IsNamedNow volume number inode
  pub hooks : MayHook (super_view volume.layout) (parts_now volume) number (pointer_at top []) zone more
  pub sized : MaySize (super_view volume.layout) (parts_now volume) number size

-- ---- links that are enough

-- those that a sound volume has, and more
abbrev pub RaisedLinksLaw : Type 0
RaisedLinksLaw =
    (super : Super) (parts : Parts) (number links : ℕ) → Sound super parts → (parts.node number).links ≤ links → AreEnough super parts number links

-- one less, where an inode had a link more than names
abbrev pub LoweredLinksLaw : Type 0
LoweredLinksLaw =
    (super : Super) (old new : Parts) (number links : ℕ) → HasLinkMore super old new number → (old.node number).links ≡ links + 1
    → AreEnough super new number links
