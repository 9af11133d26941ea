use Rattle.std.proofs.Common.{◌≡◌, Err}
use Rattle.disk_trait.specs.declared.disks.DiskFault.TheVariants.{Failed}
use Rattle.disk_trait.specs.Moments.{IsTold, now, begun}
use Rattle.disk_trait.specs.Range.{IsWritten}
use Rattle.disk_trait.specs.Calls.{WritesRange}
use Rattle.disk_trait.proofs.range.write_each.Given as goal

abbrev pub invariant-loop-i : goal.invariant-loop-i
invariant-loop-i g l = record {
  writes : WritesRange g.D.Disks l.fn.disks l.disks l.disk l.start l.sectors (Err Failed);
  written : IsTold (g.D.Disks.past l.fn.disks) → IsWritten l.disk l.start l.sectors l.i (now (g.D.Disks.past l.fn.disks)) (now (g.D.Disks.past l.disks));
  same_begun : begun (g.D.Disks.past l.disks) ≡ begun (g.D.Disks.past l.fn.disks);
}
