-- What is left alone by calls that read disks and show texts.
use Rattle.std.specs.Prelude.{◌≡◌, ◌≤◌}
use Rattle.lilo_model.specs.Faults.{Rose}
use Rattle.disk_trait.specs.Past.{SameDisks}
use Rattle.disk_trait.specs.declared.disks.Disks as disks
use Rattle.stream_trait.specs.Shows.{HasFailed, sink_of}
use Rattle.stream_trait.specs.declared.shown.Shown.{Shown}
use Rattle.stream_trait.specs.declared.sink.Sink as sinks
use Rattle.bios_model.specs.declared.bios.Bios.{Bios}

-- A call only read disks: they are as before, and where it answers that one failed their count of faults rose.
pub record OnlyReads {D : Type 0} (g : disks.Ghosts D) (old new : D) (Failed : Type 0) : Type 0 where
  pub same : SameDisks g.past g.size_of g.count_of g.geometry_of old new
  pub later : g.faults old ≤ g.faults new
  pub failed : Failed → Rose (g.faults old) (g.faults new)

-- The same of the disks of a BIOS, of which no key was taken.
pub record OnlyReadsBios {D I : Type 0} (g : disks.Ghosts D) (old new : Bios D I) (Failed : Type 0) : Type 0 where
  pub reads : OnlyReads g old.disks.now new.disks.now Failed
  pub keys : new.keys.now ≡ old.keys.now
  pub same_disks_reference : new.disks.ghost_name ≡ old.disks.ghost_name
  pub same_keys_reference : new.keys.ghost_name ≡ old.keys.ghost_name

-- A call only read disks and showed texts: where the sink refused one, its count of faults rose.
pub record ReadsAndShows {D O : Type 0} (g : disks.Ghosts D) (o : sinks.Ghosts O) (old new : D × Shown O) (Failed : Type 0) : Type 0 where
  pub reads : OnlyReads g old.0 new.0 Failed
  pub sink : HasFailed (sink_of o old.1) (sink_of o new.1)
  pub same_reference : new.1.out.ghost_name ≡ old.1.out.ghost_name
