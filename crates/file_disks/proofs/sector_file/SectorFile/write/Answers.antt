use Rattle.std.proofs.Common.{rules}
use Rattle.file_disks.proofs.sector_file.SectorFile.write.Goals.{then-not-takes+in_ok-write_out, else-not-takes}
use Rattle.file_disks.proofs.sector_file.SectorFile.write.Goals as goal

pub returns-clause-far : goal.returns-clause-far
returns-clause-far g c = elim c.if-not-takes.branch [ then-not-takes+in_ok-write_out w ↦ search rules | else-not-takes w ↦ search rules ]
