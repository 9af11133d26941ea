-- A new file, complete but for its name: its inode and its indirect zones have the numbers that were chosen for it.
use Rattle.std.specs.Prelude.{◌≡◌, ◌≢◌, ◌≤◌, ◌<◌, ℕ, ◌+◌, true, false, slice_index, Result, OnOk}
use Rattle.disk_trait.specs.declared.disks.Disks.{Ghosts}
use Rattle.disk_trait.specs.Moments.{IsTold, now, begun, IsQuiet}
use Rattle.disk_trait.specs.NotWritten.{IsOther, NotWritten}
use Rattle.disk_trait.specs.Range.{IsOutside}
use Rattle.lilo_model.specs.MinixLayout.{Super, Inode, inode_place, kept_inode, zone_sector}
use Rattle.lilo_model.specs.MinixParts as model
use Rattle.lilo_model.specs.MinixNames.{Named}
use Rattle.lilo_model.specs.MinixParts.{Parts, is_directory}
use Rattle.minix_change_laws.specs.Beside.{IsDataZone}
use Rattle.minix_change_laws.specs.Comes.{IsFit}
use Rattle.minix_change_laws.specs.Enter.{MayStand}
use Rattle.minix_choice_laws.specs.Sources.{Source, FileZones, zone_from}
use Rattle.minix_choice_laws.specs.FillLaws.{HasZones}
use Rattle.minix_layout.specs.View.{kind_view, super_view}
use Rattle.minix_steps.specs.Steps.{IsUnusedZone, Steps}
use Rattle.minix_steps.specs.Written.{parts_now}
use Rattle.minix_zones.specs.Volume.{volume_view, past_of, HasDeviceCause}
use Rattle.minix_zones.specs.declared.volume.Volume.{Volume}
use Rattle.minix_zones.specs.declared.zone_fault.ZoneFault.{ZoneFault}
use Rattle.minix_zones.specs.declared.zone_fault.ZoneFault.TheVariants.{Device}
use Rattle.minix_fill.specs.Numbers.{HasNumbers, tops_of}

-- the zones of a file are data zones to which no named inode referred at the last flush
pub record MayHoldFile {D : Type 0} {disks : Ghosts D} (volume : Volume D disks) (zones : FileZones) : Type 0 where
  pub range : (source : Source) → zone_from zones source ≢ 0 → IsDataZone (super_view volume.layout) (zone_from zones source)
  pub unused : (source : Source) → zone_from zones source ≢ 0 → IsUnusedZone volume (zone_from zones source)

-- ---- indirect zones

-- the indirect zones from a place on and below another have their numbers, and all else is as before
pub record NumbersWritten (volume : model.Volume) (old new : Parts) (zones : FileZones) (low high : ℕ) : Type 0 where
  pub numbers : (place : ℕ) → low ≤ place → place < high → slice_index zones.indirect place ≢ 0
      → HasNumbers volume.layout.kind zones place (new.zone (slice_index zones.indirect place))
  pub others : (zone : ℕ) → ((place : ℕ) → low ≤ place → place < high → slice_index zones.indirect place ≢ zone) → new.zone zone ≡ old.zone zone
  pub nodes : (number : ℕ) → 1 ≤ number → number ≤ volume.layout.inodes → new.node number ≡ old.node number
  pub marks : (number : ℕ) → number ≤ volume.layout.inodes → new.has_inode number ≡ old.has_inode number
  pub zone_marks : (zone : ℕ) → zone < volume.layout.zones → new.has_zone zone ≡ old.has_zone zone

-- a sector of a disk is none of a file's indirect zones
abbrev pub IsOffIndirect : {D : Type 0} {disks : Ghosts D} → Volume D disks → FileZones → ℕ → ℕ → Type 0
IsOffIndirect volume zones d s =
    (place : ℕ) → slice_index zones.indirect place ≢ 0
    → IsOutside volume.span.disk (volume.span.start + zone_sector (slice_index zones.indirect place)) 2 d s

-- A call writes these indirect zones and no other sector, and doesn't flush.
pub record WritesNumbers {D : Type 0} {disks : Ghosts D} (old new : Volume D disks) (zones : FileZones) (low high : ℕ)
    (result : Result (Unit {0}) ZoneFault) : Type 0 where
  pub steps : Steps old new
  pub written : IsTold (past_of old) → OnOk result (NumbersWritten (volume_view old) (parts_now old) (parts_now new) zones low high)
  pub same_begun : begun (past_of new) ≡ begun (past_of old)
  pub others : (d s : ℕ) → IsOffIndirect old zones d s → NotWritten (past_of old) (past_of new) d s
  pub device : HasDeviceCause old new Device result

-- ---- the whole file

-- an inode is that of a file, its indirect zones have their numbers, and all else is as before
pub record IsFilled {D : Type 0} {disks : Ghosts D} (old new : Volume D disks) (number : ℕ) (inode : Inode) (zones : FileZones) : Type 0 where
  pub node : (parts_now new).node number ≡ kept_inode (kind_view old.layout.kind) (record inode { zones = tops_of (kind_view old.layout.kind) zones })
  pub has : HasZones (super_view old.layout) (parts_now new) number zones
  pub nodes : (other : ℕ) → 1 ≤ other → other ≤ old.layout.inodes → other ≢ number → (parts_now new).node other ≡ (parts_now old).node other
  pub bytes : (zone : ℕ) → old.layout.first ≤ zone → ((place : ℕ) → slice_index zones.indirect place ≢ zone)
      → (parts_now new).zone zone ≡ (parts_now old).zone zone
  pub marks : (other : ℕ) → other ≤ old.layout.inodes → (parts_now new).has_inode other ≡ (parts_now old).has_inode other
  pub zone_marks : (zone : ℕ) → zone < old.layout.zones → (parts_now new).has_zone zone ≡ (parts_now old).has_zone zone

-- A call writes a file's indirect zones and its inode, and no other sector, and flushes.
pub record FillsFile {D : Type 0} {disks : Ghosts D} (old new : Volume D disks) (number : ℕ) (inode : Inode) (zones : FileZones)
    (result : Result (Unit {0}) ZoneFault) : Type 0 where
  pub steps : Steps old new
  pub filled : IsTold (past_of old) → OnOk result (IsFilled old new number inode zones)
  pub quiet : OnOk result (IsQuiet (past_of new))
  pub durable : OnOk result (begun (past_of new) ≡ now (past_of new))
  pub others : (d s : ℕ) → IsOffIndirect old zones d s
      → IsOther old.span.disk (old.span.start + (inode_place (super_view old.layout) number).sector) d s → NotWritten (past_of old) (past_of new) d s
  pub device : HasDeviceCause old new Device result

-- ---- what may get a name then

-- an inode is that of something, with a link
pub record IsOfSome (inode : Inode) : Type 0 where
  pub mode : inode.mode ≢ 0
  pub some_link : 0 < inode.links

-- it is that of a file or a symbolic link
pub record IsOfFile (inode : Inode) : Type 0 where
  pub file : is_directory inode ≡ false
  pub mode : inode.mode ≢ 0
  pub some_link : 0 < inode.links

-- the bits of an inode and of a file's zones are set
pub record AreMarked (parts : Parts) (number : ℕ) (zones : FileZones) : Type 0 where
  pub inode_bit : parts.has_inode number ≡ true
  pub zone_bits : (source : Source) → zone_from zones source ≢ 0 → parts.has_zone (zone_from zones source) ≡ true

-- the inode may get a name, where these bits were set before
abbrev pub MayGetName : {D : Type 0} {disks : Ghosts D} → Volume D disks → Volume D disks → ℕ → Inode → FileZones → Result (Unit {0}) ZoneFault → Type 0
MayGetName old new number inode zones result =
    IsOfFile inode → IsTold (past_of old) → AreMarked (parts_now old) number zones
    → OnOk result (MayStand (super_view old.layout) (parts_now new) number)

-- an inode without a name is fit for one, be it a file's or a directory's, and has a link
pub record IsNewFit (super : Super) (parts : Parts) (number : ℕ) : Type 0 where
  pub unnamed : Named super parts number → ⊥
  pub fit : IsFit super parts number
  pub some_link : 0 < (parts.node number).links

-- so it is of any inode, where these bits were set before
abbrev pub IsFitThen : {D : Type 0} {disks : Ghosts D} → Volume D disks → Volume D disks → ℕ → Inode → FileZones → Result (Unit {0}) ZoneFault → Type 0
IsFitThen old new number inode zones result =
    IsOfSome inode → IsTold (past_of old) → AreMarked (parts_now old) number zones
    → OnOk result (IsNewFit (super_view old.layout) (parts_now new) number)
