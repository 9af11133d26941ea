use Rattle.std.proofs.Common.{◌≡◌, ◌↔◌}
use Rattle.std.specs.Prelude.{IsTrue}
use Rattle.file_disks.proofs.Disks.{Through, SyncedHere, DurableTo}
use Rattle.file_disks.proofs.file_disks.FileDisks.sync_all.Given as goal

-- each before this one was synced or failed to be, and all of them are durable where none failed
abbrev pub invariant-loop-disk : goal.invariant-loop-disk
invariant-loop-disk g l = record {
  faults : l.self.faults ≡ l.fn.self.faults;
  through : Through SyncedHere l.disk l.fn.self.disks l.self.disks;
  durable : IsTrue l.done ↔ DurableTo l.disk l.self.disks;
}
