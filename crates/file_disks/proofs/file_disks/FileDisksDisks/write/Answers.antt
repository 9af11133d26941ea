use Rattle.std.proofs.Common.{ap, subst}
use Rattle.file_disks.specs.FileDisks.{FileState, AreDurable}
use Rattle.file_disks.proofs.Disks.{sizes_same, geometries_same, count_same}
use Rattle.file_disks.proofs.file_disks.FileDisksDisks.write.Goals as goal

pub returns-in-Ok-clause-size : goal.returns-in-Ok-clause-size
returns-in-Ok-clause-size g c = sizes_same c.args.self.now c.write_sector.new.self c.in-Ok.ensures.ok.shapes

pub returns-in-Ok-clause-count : goal.returns-in-Ok-clause-count
returns-in-Ok-clause-count g c = count_same _ _ c.in-Ok.ensures.ok.shapes

pub returns-in-Ok-clause-geometry : goal.returns-in-Ok-clause-geometry
returns-in-Ok-clause-geometry g c = geometries_same c.args.self.now c.write_sector.new.self c.in-Ok.ensures.ok.shapes

pub returns-in-Err-clause-durable : goal.returns-in-Err-clause-durable
returns-in-Err-clause-durable g c = λ _ all. c.in-Err.ensures.durable (subst AreDurable (ap (λ (files : FileState). files.disks) c.failure.ensures.counted) all)
