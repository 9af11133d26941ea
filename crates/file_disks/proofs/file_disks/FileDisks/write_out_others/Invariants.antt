use Rattle.std.proofs.Common.{◌≡◌}
use Rattle.file_disks.proofs.Disks.{Through, OthersChange}
use Rattle.file_disks.proofs.file_disks.FileDisks.write_out_others.Given as goal

-- each before this one, but the one that was asked for, is written out
abbrev pub invariant-loop-other : goal.invariant-loop-other
invariant-loop-other g l = record {
  faults : l.self.faults ≡ l.fn.self.faults;
  through : Through (OthersChange l.disk) l.other l.fn.self.disks l.self.disks;
}
