use Rattle.std.proofs.Common.{◌≡◌}
use Rattle.file_disks.proofs.Disks.{Through, OutWhere}
use Rattle.file_disks.proofs.file_disks.FileDisks.write_out_all.Given as goal

-- each before this one was handed on, and is written out where all were
abbrev pub invariant-loop-disk : goal.invariant-loop-disk
invariant-loop-disk g l = record {
  faults : l.self.faults ≡ l.fn.self.faults;
  through : Through (OutWhere l.done) l.disk l.fn.self.disks l.self.disks;
}
