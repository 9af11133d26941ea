use Rattle.std.proofs.Common.{refl, arith}
use Rattle.disk_trait.specs.declared.disks.DiskFault.TheVariants.{OutOfRange}
use Rattle.disk_trait.proofs.CallLemmas.{range_none}
use Rattle.disk_trait.proofs.range.write_sectors.Goals as goal

pub returns-then-is_past_end-clause-writes : goal.returns-then-is_past_end-clause-writes
returns-then-is_past_end-clause-writes g c =
    range_none g.D.Disks _ _ _ _ _ OutOfRange refl record { later = omega arith; size = refl; count = refl; geometry = refl }
