-- What clauses see of a volume, and what a call leaves of it. A volume is itself disks: its past, its faults and
-- its sizes are those of the disks that it holds.
use Rattle.std.specs.Prelude.{◌≡◌, ℕ, ◌+◌, List, Option, Result, Ok, Err, IfErr}
use Rattle.std.specs.Borrow.{MutBor}
use Rattle.disk_trait.specs.declared.disks.Disks.{Ghosts}
use Rattle.disk_trait.specs.declared.geometry.Geometry.{Geometry}
use Rattle.disk_trait.specs.Past.{Past, SameDisks}
use Rattle.lilo_model.specs.Faults.{Rose}
use Rattle.disk_trait.specs.Moments.{begun}
use Rattle.disk_trait.specs.Calls.{Writes, Flushes}
use Rattle.minix_layout.specs.View.{super_view}
use Rattle.lilo_model.specs.MinixParts as model
use Rattle.minix_zones.specs.View.{span_view}
use Rattle.minix_zones.specs.declared.volume.Volume.{Volume}
use Rattle.minix_zones.specs.declared.zone_fault.ZoneFault.{ZoneFault}

-- where it lies, and its superblock
abbrev pub volume_view : {D : Type 0} {disks : Ghosts D} → Volume D disks → model.Volume
volume_view volume = record { span = span_view volume.span; layout = super_view volume.layout }

-- the past of its disks
abbrev pub past_of : {D : Type 0} {disks : Ghosts D} → Volume D disks → Option Past
past_of {D} {disks} volume = disks.past volume.disks.now

-- their count of faults
abbrev pub faults_of : {D : Type 0} {disks : Ghosts D} → Volume D disks → ℕ
faults_of {D} {disks} volume = disks.faults volume.disks.now

-- how many sectors each of them has
abbrev pub sizes_of : {D : Type 0} {disks : Ghosts D} → Volume D disks → ℕ → ℕ
sizes_of {D} {disks} volume = disks.size_of volume.disks.now

-- how many there is room for
abbrev pub count_of : {D : Type 0} {disks : Ghosts D} → Volume D disks → ℕ
count_of {D} {disks} volume = disks.count_of volume.disks.now

-- how they are divided
abbrev pub geometries_of : {D : Type 0} {disks : Ghosts D} → Volume D disks → ℕ → Geometry
geometries_of {D} {disks} volume = disks.geometry_of volume.disks.now

-- A volume still holds the same disks, its span and its superblock.
pub record KeepsVolume {D : Type 0} {disks : Ghosts D} (old new : Volume D disks) : Type 0 where
  pub same_span : new.span ≡ old.span
  pub same_layout : new.layout ≡ old.layout
  pub same_reference : new.disks.ghost_name ≡ old.disks.ghost_name

-- A call changed no disk, and the volume still holds the same disks, its span and its superblock.
pub record SameVolume {D : Type 0} {disks : Ghosts D} (old new : Volume D disks) : Type 0 where
  pub same_disks : SameDisks (past_of {disks = disks}) sizes_of count_of geometries_of old new
  pub same_span : new.span ≡ old.span
  pub same_layout : new.layout ≡ old.layout
  pub same_reference : new.disks.ghost_name ≡ old.disks.ghost_name

-- a call was refused with this error because the disk failed, and its count of faults rose
abbrev pub HasDeviceCause : {D T E : Type 0} {disks : Ghosts D} → Volume D disks → Volume D disks → E → Result T E → Type 0
HasDeviceCause old new error result = IfErr result (λ fault. (fault ≡ error) × Rose (faults_of old) (faults_of new))

-- A call wrote these bytes into one sector of a volume, counted from its start, without a flush: until the next one a
-- stop may leave it written or not. A call that was refused with this error has written it or hasn't.
pub record WritesSector {D E : Type 0} {disks : Ghosts D} (old new : Volume D disks) (sector : ℕ) (bytes : List ℕ) (error : E)
    (result : Result (Unit {0}) E) : Type 0 where
  pub writes : Writes disks old.disks.now new.disks.now old.span.disk (old.span.start + sector) bytes result
  pub same_begun : begun (past_of new) ≡ begun (past_of old)
  pub device : HasDeviceCause old new error result
  pub kept : KeepsVolume old new

-- A call made all writes so far durable. One that was refused with this error did nothing.
pub record Syncs {D E : Type 0} {disks : Ghosts D} (old new : Volume D disks) (error : E) (result : Result (Unit {0}) E) : Type 0 where
  pub flushes : Flushes disks old.disks.now new.disks.now result
  pub device : HasDeviceCause old new error result
  pub kept : KeepsVolume old new

-- what was answered of a volume, without the disks that a refusal hands back
abbrev pub attached : {D : Type 0} {disks : Ghosts D} → Result (Volume D disks) (MutBor D × ZoneFault) → Result (Volume D disks) ZoneFault
attached (Ok volume) = Ok volume
attached (Err refusal) = Err refusal.1

-- the disks that a volume holds or a refusal hands back
abbrev pub disks_in : {D : Type 0} {disks : Ghosts D} → Result (Volume D disks) (MutBor D × ZoneFault) → MutBor D
disks_in (Ok volume) = volume.disks
disks_in (Err refusal) = refusal.0
