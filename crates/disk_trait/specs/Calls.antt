-- What a call leaves of disks, in terms of moments. The trait's members are passed whole.
use Rattle.std.specs.Prelude.{◌≡◌, ◌⊎◌, ◌≤◌, ℕ, List, length, Result, OnOk, OnErr}
use Rattle.disk_trait.specs.declared.disks.Disks.{Ghosts}
use Rattle.disk_trait.specs.declared.disks.DiskFault.{DiskFault}
use Rattle.disk_trait.specs.Past.{Image, SameDisks, with_sector}
use Rattle.disk_trait.specs.Cause.{HasCause, HasFlushCause}
use Rattle.disk_trait.specs.Moments.{IsTold, now, begun, MayLeave, IsQuiet, LeftOrWritten, MayWrite, LeavesOnly, IsWhole, StaysWhole}
use Rattle.disk_trait.specs.NotWritten.{NotWritten, WritesNoOther}
use Rattle.disk_trait.specs.Range.{HasRangeCause, IsOutside, IsWritten, IsPartWritten, LeftOrPartWritten}

-- the cause of what a call on one sector answered
abbrev pub HasCauseOf : {D : Type 0} → Ghosts D → D → D → ℕ → ℕ → Result (Unit {0}) DiskFault → Type 0
HasCauseOf disks old new disk sector result = HasCause (disks.size_of old disk) sector (disks.faults old) (disks.faults new) result

-- the cause of what a call on neighbouring sectors answered
abbrev pub HasRangeCauseOf : {D : Type 0} → Ghosts D → D → D → ℕ → ℕ → ℕ → Result (Unit {0}) DiskFault → Type 0
HasRangeCauseOf disks old new disk start count result =
    HasRangeCause (disks.size_of old disk) start count (disks.faults old) (disks.faults new) result

-- the cause of what a flush answered
abbrev pub HasFlushCauseOf : {D : Type 0} → Ghosts D → D → D → Result (Unit {0}) DiskFault → Type 0
HasFlushCauseOf disks old new result = HasFlushCause (disks.faults old) (disks.faults new) result

-- a call changed no disk: it made no event, and what never changes is as before
abbrev pub SameOf : {D : Type 0} → Ghosts D → D → D → Type 0
SameOf disks old new = SameDisks disks.past disks.size_of disks.count_of disks.geometry_of old new

-- What holds of disks whatever was done with them.
pub record GoesOn {D : Type 0} (disks : Ghosts D) (old new : D) : Type 0 where
  pub told : IsTold (disks.past old) → IsTold (disks.past new)
  pub told_before : IsTold (disks.past new) → IsTold (disks.past old)
  -- a stop may leave what they hold now
  pub at_now : IsTold (disks.past new) → MayLeave (disks.past new) (now (disks.past new))
  -- what a stop leaves has 512 bytes in each sector that is there
  pub whole : IsWhole (disks.size_of old) (disks.past old) → StaysWhole (disks.size_of old) (disks.past old) (disks.past new)
  pub later : disks.faults old ≤ disks.faults new
  pub size : disks.size_of new ≡ disks.size_of old
  pub count : disks.count_of new ≡ disks.count_of old
  pub geometry : disks.geometry_of new ≡ disks.geometry_of old

-- A call only read: it made no event.
pub record Reads {D : Type 0} (disks : Ghosts D) (old new : D) : Type 0 where
  pub past : disks.past new ≡ disks.past old
  pub any_moment : LeavesOnly (disks.past old) (disks.past new) (MayLeave (disks.past old))
  pub untouched : (d s : ℕ) → NotWritten (disks.past old) (disks.past new) d s
  pub goes_on : GoesOn disks old new

-- A call wrote these bytes into one sector, and where it failed it has written them or hasn't.
pub record Writes {D E : Type 0} (disks : Ghosts D) (old new : D) (disk sector : ℕ) (bytes : List ℕ) (result : Result (Unit {0}) E) : Type 0 where
  -- what the disks hold now
  pub written : IsTold (disks.past old) → OnOk result (now (disks.past new) ≡ with_sector (now (disks.past old)) disk sector bytes)
  pub made : (now (disks.past new) ≡ with_sector (now (disks.past old)) disk sector bytes) ⊎ (now (disks.past new) ≡ now (disks.past old))
  -- what a stop may leave after the call, and at any moment of it
  pub left : MayWrite disk sector bytes (disks.past old) (disks.past new)
  pub any_moment : LeavesOnly (disks.past old) (disks.past new) (LeftOrWritten (disks.past old) disk sector bytes)
  -- it wrote no other sector
  pub others : WritesNoOther disk sector (disks.past old) (disks.past new)
  pub goes_on : GoesOn disks old new

-- A call wrote neighbouring sectors, and where it failed it has written some of them or none.
pub record WritesRange {D E : Type 0} (disks : Ghosts D) (old new : D) (disk start : ℕ) (sectors : List (List ℕ)) (result : Result (Unit {0}) E) : Type 0 where
  -- what the disks hold now
  pub written : IsTold (disks.past old) → OnOk result (IsWritten disk start sectors (length sectors) (now (disks.past old)) (now (disks.past new)))
  pub made : IsPartWritten disk start sectors (now (disks.past old)) (now (disks.past new))
  -- what a stop may leave after the call, and at any moment of it
  pub left : (c : Image) → MayLeave (disks.past new) c → LeftOrPartWritten (disks.past old) disk start sectors c
  pub any_moment : LeavesOnly (disks.past old) (disks.past new) (LeftOrPartWritten (disks.past old) disk start sectors)
  -- it wrote no other sector
  pub others : (d s : ℕ) → IsOutside disk start (length sectors) d s → NotWritten (disks.past old) (disks.past new) d s
  pub goes_on : GoesOn disks old new

-- A call made all writes so far durable, and where it failed it did nothing.
pub record Flushes {D E : Type 0} (disks : Ghosts D) (old new : D) (result : Result (Unit {0}) E) : Type 0 where
  pub failed : OnErr result (disks.past new ≡ disks.past old)
  -- what the disks hold now, and what they held at the last flush
  pub same_now : now (disks.past new) ≡ now (disks.past old)
  pub durable : OnOk result (begun (disks.past new) ≡ now (disks.past old))
  -- what a stop may leave after the call, and at any moment of it
  pub quiet : OnOk result (IsQuiet (disks.past new))
  pub left : (c : Image) → MayLeave (disks.past new) c → MayLeave (disks.past old) c
  pub any_moment : LeavesOnly (disks.past old) (disks.past new) (MayLeave (disks.past old))
  -- it wrote no sector
  pub untouched : (d s : ℕ) → NotWritten (disks.past old) (disks.past new) d s
  pub goes_on : GoesOn disks old new

-- A call ended with a flush, and where it failed there was none.
pub record EndsWithFlush {D E : Type 0} (disks : Ghosts D) (old new : D) (result : Result (Unit {0}) E) : Type 0 where
  pub quiet : OnOk result (IsQuiet (disks.past new))
  -- what they held at the last flush
  pub durable : OnOk result (begun (disks.past new) ≡ now (disks.past new))
  pub failed : OnErr result (begun (disks.past new) ≡ begun (disks.past old))
