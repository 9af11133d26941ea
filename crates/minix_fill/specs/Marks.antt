-- The bits of many zones, and what a call leaves that sets them.
use Rattle.std.specs.Prelude.{◌≡◌, ◌≤◌, ◌<◌, ◌⊎◌, ℕ, ◌+◌, ◌*◌, ◌%◌, ◌||◌, true, All, List, [], ◌∷◌, slice_index, Result, OnOk}
use Rattle.disk_trait.specs.declared.disks.Disks.{Ghosts}
use Rattle.disk_trait.specs.Moments.{IsTold, begun}
use Rattle.disk_trait.specs.NotWritten.{NotWritten}
use Rattle.disk_trait.specs.Range.{IsOutside}
use Rattle.lilo_model.specs.MinixLayout.{Super}
use Rattle.lilo_model.specs.MinixParts as model
use Rattle.lilo_model.specs.MinixParts.{Parts, zone_bit, zone_mark_sector, with_bit}
use Rattle.minix_change_laws.specs.Beside.{IsDataZone}
use Rattle.minix_steps.specs.Numbers.{has_number}
use Rattle.minix_steps.specs.Steps.{Steps}
use Rattle.minix_steps.specs.Written.{parts_now}
use Rattle.minix_zones.specs.Volume.{volume_view, past_of, HasDeviceCause}
use Rattle.minix_zones.specs.declared.volume.Volume.{Volume}
use Rattle.minix_zones.specs.declared.zone_fault.ZoneFault.{ZoneFault}
use Rattle.minix_zones.specs.declared.zone_fault.ZoneFault.TheVariants.{Device}

-- the bytes of a sector of the zone bitmap with the bits of some zones set
abbrev pub with_marks : Super → List ℕ → List ℕ → List ℕ
with_marks super bytes [] = bytes
with_marks super bytes (zone ∷ zones) = with_marks super (with_bit bytes (zone_bit super zone % 4096) true) zones

-- the bits of some zones are in one sector
abbrev pub AreTogether : Super → List ℕ → Type 0
AreTogether super zones = All (λ zone. zone_mark_sector super zone ≡ zone_mark_sector super (slice_index zones 0)) zones

-- of the parts of a volume the bits of some zones are set, and all else is as before
pub record ZonesMarked (volume : model.Volume) (old new : Parts) (zones : List ℕ) : Type 0 where
  pub marks : (zone : ℕ) → IsDataZone volume.layout zone → new.has_zone zone ≡ (old.has_zone zone || has_number zones zone)
  -- bit 0 and those past the last zone too
  pub others : (zone : ℕ) → (zone < volume.layout.first) ⊎ (volume.layout.zones ≤ zone) → new.has_zone zone ≡ old.has_zone zone
  pub inodes : (number : ℕ) → number ≤ volume.layout.inodes → new.has_inode number ≡ old.has_inode number
  pub nodes : (number : ℕ) → new.node number ≡ old.node number
  pub bytes : (zone : ℕ) → volume.layout.first ≤ zone → new.zone zone ≡ old.zone zone

-- a sector of a disk is none of a volume's zone bitmap
abbrev pub IsOffZoneMap : {D : Type 0} {disks : Ghosts D} → Volume D disks → ℕ → ℕ → Type 0
IsOffZoneMap volume d s =
    IsOutside volume.span.disk (volume.span.start + 2 * (2 + volume.layout.imap)) (2 * volume.layout.zmap) d s

-- A call sets the bits of some zones, in sectors of the zone bitmap alone, and doesn't flush.
pub record MarksZones {D : Type 0} {disks : Ghosts D} (old new : Volume D disks) (zones : List ℕ) (result : Result (Unit {0}) ZoneFault) : Type 0 where
  pub steps : Steps old new
  pub marked : IsTold (past_of old) → OnOk result (ZonesMarked (volume_view old) (parts_now old) (parts_now new) zones)
  pub same_begun : begun (past_of new) ≡ begun (past_of old)
  pub others : (d s : ℕ) → IsOffZoneMap old d s → NotWritten (past_of old) (past_of new) d s
  pub device : HasDeviceCause old new Device result
