use Rattle.std.proofs.Common.{refl, ap}
use Rattle.file_disks.specs.FileDisks.{FileState}
use Rattle.file_disks.proofs.Disks.{set_one}
use Rattle.file_disks.proofs.file_disks.FileDisks.write_out_one.Goals as goal

pub returns-clause-only : goal.returns-clause-only
returns-clause-only g c =
    (set_one _ _ _ _ _ _ (ap (λ (files : FileState). files.disks) c.self.view_is) refl c.requires c.index_mut.ensures.value c.write_out.ensures.shape).only
