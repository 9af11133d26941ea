-- What a boot leaves of the disks: at most the default line's sector is written. (This project's own.)
use Rattle.std.specs.Prelude.{◌≡◌, ◌≤◌, Option, None, Some, IsSome, Result, Ok, Err}
use Rattle.lilo_model.specs.Faults.{Rose}
use Rattle.disk_trait.specs.declared.disks.Disks.{Ghosts}
use Rattle.disk_trait.specs.declared.disks.Phase.{Phase}
use Rattle.disk_trait.specs.declared.disks.Phase.TheVariants.{Before, Commit, After}
use Rattle.disk_trait.specs.Calls.{SameOf, GoesOn}
use Rattle.disk_trait.specs.Moments.{IsTold}
use Rattle.bios_model.specs.declared.bios.Bios.{Bios}
use Rattle.bios_model.specs.Writes.{WritesPlace}
use Rattle.section_loader.specs.declared.reason.Halt.{Halt}
use Rattle.section_loader.specs.declared.reason.Halt.TheVariants.{Device, Refused}
use Rattle.prompt_loop.specs.declared.asking.Stop.{Stop}
use Rattle.prompt_loop.specs.declared.asking.Stop.TheVariants as stops
use Rattle.stream_trait.specs.Shows.{HasFailed, sink_of}
use Rattle.stream_trait.specs.declared.shown.Shown.{Shown}
use Rattle.stream_trait.specs.declared.sink.Sink as sinks
use Rattle.stream_trait.specs.declared.source.Source as sources
use Rattle.loader_core.specs.declared.outcome.Started.{Started}
use Rattle.loader_core.specs.Report.{LineWrite}

-- What is to be written was written and made durable, where something is, and nothing else. A stop at any moment leaves
-- the sector with its old bytes or its new ones and every other sector as before. One that was refused has written it or
-- hasn't.
abbrev pub Puts : {D E : Type 0} → Ghosts D → D → D → Option LineWrite → Result (Unit {0}) E → Type 0
Puts g old new None result = SameOf g old new
Puts g old new (Some write) result = WritesPlace g old new write.place write.bytes result

-- the same, that it was
abbrev pub HasPut : {D : Type 0} → Ghosts D → D → D → Option LineWrite → Type 0
HasPut g old new write = Puts {E = Unit {0}} g old new write (Ok tt)

-- A device failed before the write: nothing was written, and the count of faults rose.
pub record LostBefore {D : Type 0} (g : Ghosts D) (old new : D) : Type 0 where
  pub same : SameOf g old new
  pub rose : Rose (g.faults old) (g.faults new)

-- A device failed in the write or the flush of it: nothing was written before it began, and from then on the count of
-- faults rose. It has written it or hasn't.
pub record LostIn {D : Type 0} (g : Ghosts D) (old new : D) (write : Option LineWrite) : Type 0 where
  pub some : IsSome write
  -- the disks when the write began
  pub before : D
  pub same : SameOf g old before
  pub later : g.faults old ≤ g.faults before
  pub puts : Puts {E = Unit {0}} g before new write (Err tt)
  pub rose : Rose (g.faults before) (g.faults new)

-- A device failed after the write was made durable: nothing was written from then on, and the count of faults rose.
pub record LostAfter {D : Type 0} (g : Ghosts D) (old new : D) (write : Option LineWrite) : Type 0 where
  pub some : IsSome write
  -- the disks when the write was durable
  pub written : D
  pub put : HasPut g old written write
  pub same : SameOf g written new
  pub later : g.faults written ≤ g.faults new
  pub rose : Rose (g.faults written) (g.faults new)

-- how far the write came where a device failed, by the phase in which it did; the count of faults rose in that phase
abbrev pub CameTo : {D : Type 0} → Ghosts D → D → D → Option LineWrite → Phase → Type 0
CameTo g old new write Before = LostBefore g old new
CameTo g old new write Commit = LostIn g old new write
CameTo g old new write After = LostAfter g old new write

-- what is left where a boot, or a part of it, ended so, and where a device failed by the phase in which it did
abbrev pub Leaves : {D : Type 0} → Ghosts D → D → D → Option LineWrite → Result Started Stop → Phase → Type 0
Leaves g old new write (Ok started) phase = HasPut g old new write
Leaves g old new write (Err stops.Keys) phase = SameOf g old new
Leaves g old new write (Err (stops.Halt Device)) phase = CameTo g old new write phase
Leaves g old new write (Err (stops.Halt (Refused reason))) phase = HasPut g old new write

-- the phase once all that is to be written was
abbrev pub IsPast : Option LineWrite → Phase → Type 0
IsPast None phase = phase ≡ Before
IsPast (Some write) phase = phase ≡ After

-- what is to be written was, or a device failed in that
abbrev pub LineWritten : {D : Type 0} → Ghosts D → D → D → Option LineWrite → Result (Unit {0}) Halt → Phase → Type 0
LineWritten g old new write (Ok done) phase = HasPut g old new write × IsPast write phase
LineWritten g old new write (Err Device) phase = (phase ≡ Commit) × LostIn g old new write × Rose (g.faults old) (g.faults new)
LineWritten g old new write (Err (Refused reason)) phase = ⊥

-- the same, whatever else was done with the disks
pub record WritesLine {D : Type 0} (g : Ghosts D) (old new : D) (write : Option LineWrite) (result : Result (Unit {0}) Halt) (phase : Phase) : Type 0 where
  pub line : LineWritten g old new write result phase
  pub goes_on : GoesOn g old new

-- A call read disks, may have written on them, and showed texts: where it answers that one failed, their count of faults
-- rose.
pub record WritesAndShows {D O : Type 0} (g : Ghosts D) (o : sinks.Ghosts O) (old new : D × Shown O) (Failed : Type 0) : Type 0 where
  pub keeps : GoesOn g old.0 new.0
  pub failed : Failed → Rose (g.faults old.0) (g.faults new.0)
  pub sink : HasFailed (sink_of o old.1) (sink_of o new.1)
  pub same_reference : new.1.out.ghost_name ≡ old.1.out.ghost_name

-- The same of a call that takes keys too; where no key was heard, the source's count of faults rose.
pub record WritesAndAsks {D I O : Type 0} (g : Ghosts D) (i : sources.Ghosts I) (o : sinks.Ghosts O) (old new : Bios D I × Shown O)
    (Lost Unheard : Type 0) : Type 0 where
  pub keeps : GoesOn g old.0.disks.now new.0.disks.now
  pub lost : Lost → Rose (g.faults old.0.disks.now) (g.faults new.0.disks.now)
  pub later : i.faults old.0.keys.now ≤ i.faults new.0.keys.now
  pub keys : Unheard → Rose (i.faults old.0.keys.now) (i.faults new.0.keys.now)
  pub sink : HasFailed (sink_of o old.1) (sink_of o new.1)
  pub same_disks_reference : new.0.disks.ghost_name ≡ old.0.disks.ghost_name
  pub same_keys_reference : new.0.keys.ghost_name ≡ old.0.keys.ghost_name
  pub same_reference : new.1.out.ghost_name ≡ old.1.out.ghost_name
