use Rattle.std.proofs.Common.{refl, subst}
use Rattle.std.specs.Prelude.{OnOk}
use Rattle.file_disks.specs.FileDisks.{DiskState, Takes}
use Rattle.file_disks.proofs.Disks.{takes_from}
use Rattle.file_disks.proofs.file_disk.FileDisk.write.Goals as goal

pub returns-clause-ok : goal.returns-clause-ok
returns-clause-ok g c =
    let state : DiskState = record {
      sectors = c.self.inside.sectors;
      geometry = c.self.inside.geometry;
      gathered = c.write.new.self.gathered;
      synced = c.write.new.self.synced;
    } in
    subst (λ (disk : DiskState). OnOk c.write.result (Takes disk c.args.sector c.args.from.now state)) c.self.view_is
    (takes_from c.write.result _ _ _ _ _ state c.args.sector c.args.from.now refl c.write.ensures.near c.write.ensures.far c.write.ensures.synced)
