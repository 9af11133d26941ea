use Rattle.std.proofs.Common.{◌+◌, Err}
use Rattle.disk_trait.specs.declared.disks.DiskFault.TheVariants.{Failed}
use Rattle.disk_trait.specs.Moments.{IsTold, now}
use Rattle.disk_trait.specs.Range.{IsWritten}
use Rattle.disk_trait.specs.Calls.{WritesRange}
use Rattle.minix_layout.specs.View.{super_view}
use Rattle.ldisk_model.specs.MinixFormat.{formatted_sectors}
use Rattle.minix_format.proofs.volume.write_each.Given as goal

abbrev pub invariant-loop-index : goal.invariant-loop-index
invariant-loop-index g l = record {
  writes : WritesRange g.D.Disks l.fn.disks l.disks l.span.disk (l.span.start + 2) (formatted_sectors (super_view l.layout) l.time) (Err Failed);
  written : IsTold (g.D.Disks.past l.fn.disks)
      → IsWritten l.span.disk (l.span.start + 2) (formatted_sectors (super_view l.layout) l.time) l.index (now (g.D.Disks.past l.fn.disks)) (now (g.D.Disks.past l.disks));
}
