-- New zones, the lowest first, as a volume has them now.
use Rattle.std.specs.Prelude.{◌≡◌, ◌≢◌, ◌≤◌, ◌<◌, ◌+◌, ℕ, true, List, length, slice_index}
use Rattle.disk_trait.specs.declared.disks.Disks.{Ghosts}
use Rattle.disk_trait.specs.NotWritten.{IsOther, NotWritten}
use Rattle.disk_trait.specs.Range.{IsOutside}
use Rattle.lilo_model.specs.MinixLayout.{Kind, zone_sector}
use Rattle.lilo_model.specs.MinixParts.{zone_mark_sector}
use Rattle.minix_layout.specs.View.{super_view}
use Rattle.minix_layout.specs.declared.superblock.Super.{Super}
use Rattle.minix_steps.specs.Steps.{IsUnusedZone}
use Rattle.minix_steps.specs.Written.{parts_now}
use Rattle.minix_zones.specs.Volume.{past_of}
use Rattle.minix_zones.specs.declared.volume.Volume.{Volume}
use Rattle.minix_grow.specs.Way.{grown_bytes, AreGrown}

-- they are data zones, each another one
pub record AreData (layout : Super) (zones : List ℕ) : Type 0 where
  pub from : (level : ℕ) → level < length zones → layout.first ≤ slice_index zones level
  pub below : (level : ℕ) → level < length zones → slice_index zones level < layout.zones
  pub apart : (level other : ℕ) → level < other → other < length zones → slice_index zones other ≢ slice_index zones level

-- no named inode referred to one of them at the last flush
abbrev pub AreUnused : {D : Type 0} {disks : Ghosts D} → Volume D disks → List ℕ → Type 0
AreUnused volume zones = (level : ℕ) → level < length zones → IsUnusedZone volume (slice_index zones level)

-- the first ones are marked
abbrev pub AreMarked : {D : Type 0} {disks : Ghosts D} → Volume D disks → List ℕ → ℕ → Type 0
AreMarked volume zones count = (level : ℕ) → level < count → (parts_now volume).has_zone (slice_index zones level) ≡ true

-- they hold what completes the way to a block
abbrev pub AreWritten : {D : Type 0} {disks : Ghosts D} → Kind → Volume D disks → ℕ → List ℕ → ℕ → Type 0
AreWritten kind volume block zones count = (level : ℕ) → level < count → (parts_now volume).zone (slice_index zones level) ≡ grown_bytes kind block zones level

-- and complete it
abbrev pub AreGrownNow : {D : Type 0} {disks : Ghosts D} → Volume D disks → ℕ → List ℕ → Type 0
AreGrownNow volume block zones = AreGrown (super_view volume.layout) (parts_now volume) block zones (length zones)

-- ---- what isn't written

-- a sector of a disk is none of a zone's, and not the one with its bit
pub record IsOffZone {D : Type 0} {disks : Ghosts D} (volume : Volume D disks) (zone d s : ℕ) : Type 0 where
  pub bit : IsOther volume.span.disk (volume.span.start + zone_mark_sector (super_view volume.layout) zone) d s
  pub bytes : IsOutside volume.span.disk (volume.span.start + zone_sector zone) 2 d s

-- so it is for some zones
abbrev pub IsOffZones : {D : Type 0} {disks : Ghosts D} → Volume D disks → List ℕ → ℕ → ℕ → Type 0
IsOffZones volume zones d s = (level : ℕ) → level < length zones → IsOffZone volume (slice_index zones level) d s

-- a call wrote nothing but some zones and the sectors with their bits
abbrev pub WritesZonesAlone : {D : Type 0} {disks : Ghosts D} → Volume D disks → Volume D disks → List ℕ → Type 0
WritesZonesAlone old new zones = (d s : ℕ) → IsOffZones old zones d s → NotWritten (past_of old) (past_of new) d s
