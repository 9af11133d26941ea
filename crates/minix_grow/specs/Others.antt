-- What a directory's growth leaves of all other inodes, whether they have a name or not, and of the bitmap bits (a rule of
-- this project's own).
use Rattle.std.specs.Prelude.{◌≡◌, ◌≢◌, ◌<◌, ◌⊎◌, ℕ, true, List, length, slice_index, Result, OnOk}
use Rattle.disk_trait.specs.declared.disks.Disks.{Ghosts}
use Rattle.disk_trait.specs.Moments.{IsTold, now}
use Rattle.lilo_model.specs.MinixLayout.{Super, Inode}
use Rattle.lilo_model.specs.MinixNames.{Named, PointsTo}
use Rattle.lilo_model.specs.MinixParts as model
use Rattle.lilo_model.specs.MinixParts.{Parts, Pointer}
use Rattle.minix_change_laws.specs.Beside.{IsInode, IsDataZone}
use Rattle.minix_change_laws.specs.Comes.{IsFit}
use Rattle.minix_change_laws.specs.Only.{KeepsInode}
use Rattle.minix_layout.specs.View.{super_view}
use Rattle.minix_steps.specs.Written.{parts_now}
use Rattle.minix_zones.specs.Volume.{volume_view, past_of}
use Rattle.minix_zones.specs.declared.volume.Volume.{Volume}
use Rattle.minix_grow.specs.Below.{MayHookBelowNow}
use Rattle.minix_grow.specs.Way.{pointer_above}

-- a zone is one of some, or none of them
pub record IsOneOf (zones : List ℕ) (zone : ℕ) : Type 0 where
  pub at : ℕ
  pub low : at < length zones
  pub is : slice_index zones at ≡ zone

abbrev pub IsNoneOf : List ℕ → ℕ → Type 0
IsNoneOf zones zone = (at : ℕ) → at < length zones → slice_index zones at ≢ zone

-- an inode points to none of some zones
abbrev pub IsClearOf : Super → Parts → ℕ → List ℕ → Type 0
IsClearOf super parts number zones = (at : Pointer) (zone : ℕ) → PointsTo super parts number at zone → IsNoneOf zones zone

-- an inode has a zone: one of its pointers leads there
abbrev pub IsZoneOf : Super → Parts → ℕ → ℕ → Type 0
IsZoneOf super parts number zone = (at : Pointer) × PointsTo super parts number at zone

-- it has some zones, each at its level of the way to a block, the lowest first
abbrev pub HasOnWay : Super → Parts → ℕ → ℕ → List ℕ → Type 0
HasOnWay super parts number block zones =
    (level : ℕ) → level < length zones → PointsTo super parts number (pointer_above super.kind block level) (slice_index zones level)

-- ---- inodes

-- an inode's mode, owner, links and times stay, whatever its size and its zones become
abbrev pub SameButZones : Inode → Inode → Type 0
SameButZones old new = new ≡ record old { size = new.size; zones = new.zones }

-- so it is, and its links may be others too
abbrev pub SameButLinksAndZones : Inode → Inode → Type 0
SameButLinksAndZones old new = new ≡ record old { links = new.links; size = new.size; zones = new.zones }

-- Each inode of a volume but two stays, named or not, and one of these two but for its links, its size and its zones.
pub record KeepsNodes (super : Super) (old new : Parts) (directory number : ℕ) : Type 0 where
  pub others : (other : ℕ) → IsInode super other → other ≢ directory → other ≢ number → new.node other ≡ old.node other
  pub own : SameButLinksAndZones (old.node directory) (new.node directory)

-- ---- new zones

-- the bytes of some zones may be others, and their bitmap bits may get set; all else is as before
pub record ChangesZones (super : Super) (old new : Parts) (zones : List ℕ) : Type 0 where
  pub bytes : (zone : ℕ) → IsDataZone super zone → IsNoneOf zones zone → new.zone zone ≡ old.zone zone
  pub nodes : (number : ℕ) → IsInode super number → new.node number ≡ old.node number
  pub marks : (number : ℕ) → IsInode super number → new.has_inode number ≡ old.has_inode number
  pub zone_marks : (zone : ℕ) → IsDataZone super zone → IsNoneOf zones zone → new.has_zone zone ≡ old.has_zone zone
  pub stay_marked : (zone : ℕ) → IsDataZone super zone → old.has_zone zone ≡ true → new.has_zone zone ≡ true

-- ---- growth

-- A directory got some zones, or places in zones that it has. An inode with a name points to what it pointed to, or to one
-- of these. Each other inode that is fit for a name stays, with its zones, where it points to none of them. Each inode but
-- the directory's stays, and of that all but its size and its zones; it has the zones that it had. No bitmap bit but theirs
-- changed, none was cleared, and one that was set is of a zone that the directory has now: no zone is lost.
pub record KeepsOthers (super : Super) (old new : Parts) (directory : ℕ) (growth : List ℕ) : Type 0 where
  pub points : (number : ℕ) (at : Pointer) (zone : ℕ) → Named super old number → PointsTo super new number at zone
      → PointsTo super old number at zone ⊎ IsOneOf growth zone
  pub others : (number : ℕ) → IsFit super old number → number ≢ directory → IsClearOf super old number growth
      → KeepsInode super old new number
  pub nodes : (number : ℕ) → IsInode super number → number ≢ directory → new.node number ≡ old.node number
  pub own : SameButZones (old.node directory) (new.node directory)
  pub stays : (at : Pointer) (zone : ℕ) → PointsTo super old directory at zone → PointsTo super new directory at zone
  pub marks : (number : ℕ) → IsInode super number → new.has_inode number ≡ old.has_inode number
  pub zone_marks : (zone : ℕ) → IsDataZone super zone → IsNoneOf growth zone → new.has_zone zone ≡ old.has_zone zone
  pub stay_marked : (zone : ℕ) → IsDataZone super zone → old.has_zone zone ≡ true → new.has_zone zone ≡ true
  pub used : (zone : ℕ) → IsDataZone super zone → new.has_zone zone ≡ true
      → (old.has_zone zone ≡ true) ⊎ IsZoneOf super new directory zone

-- ---- on a volume, since it was as it is here

abbrev pub ChangesZonesNow : {D : Type 0} {disks : Ghosts D} → Volume D disks → Volume D disks → List ℕ → Type 0
ChangesZonesNow old new zones =
    ChangesZones (super_view old.layout) (parts_now old) (model.parts_of (volume_view old) (now (past_of new))) zones

abbrev pub KeepsOthersNow : {D : Type 0} {disks : Ghosts D} → Volume D disks → Volume D disks → ℕ → List ℕ → Type 0
KeepsOthersNow old new directory growth =
    KeepsOthers (super_view old.layout) (parts_now old) (model.parts_of (volume_view old) (now (past_of new))) directory growth

-- a directory has some zones on the way to a block now
abbrev pub HasOnWayNow : {D : Type 0} {disks : Ghosts D} → Volume D disks → Volume D disks → ℕ → ℕ → List ℕ → Type 0
HasOnWayNow old new directory block zones =
    HasOnWay (super_view old.layout) (model.parts_of (volume_view old) (now (past_of new))) directory block zones

-- a number in an indirect zone of a directory does so
abbrev pub HookKeepsOthers : {D E : Type 0} {disks : Ghosts D} → Volume D disks → Volume D disks → ℕ → List ℕ → ℕ → Result (Unit {0}) E → Type 0
HookKeepsOthers old new block growth zone result =
    (directory : ℕ) (node : Inode) → (IsTold (past_of old) → MayHookBelowNow old directory node block (length growth) zone)
    → IsTold (past_of old) → OnOk result (KeepsOthersNow old new directory growth)

-- and then the directory has each of the new zones
abbrev pub HookHasOnWay : {D E : Type 0} {disks : Ghosts D} → Volume D disks → Volume D disks → ℕ → List ℕ → ℕ → Result (Unit {0}) E → Type 0
HookHasOnWay old new block growth zone result =
    (directory : ℕ) (node : Inode) → (IsTold (past_of old) → MayHookBelowNow old directory node block (length growth) zone)
    → IsTold (past_of old) → OnOk result (HasOnWayNow old new directory block growth)
