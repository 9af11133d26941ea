use Rattle.std.proofs.Common.{refl, ap, sym, subst}
use Rattle.std.specs.Prelude.{OnErr}
use Rattle.file_disks.specs.FileDisks.{FileState, DiskState, IsDurable}
use Rattle.file_disks.proofs.Disks.{set_one}
use Rattle.file_disks.proofs.file_disks.FileDisks.sync.Goals as goal

pub returns-clause-only : goal.returns-clause-only
returns-clause-only g c =
    (set_one _ _ _ _ _ _ (ap (λ (files : FileState). files.disks) c.self.view_is) refl c.requires c.index_mut.ensures.value c.sync.ensures.shape).only

pub returns-clause-err : goal.returns-clause-err
returns-clause-err g c =
    let one = set_one c.self.inside.disks.items c.args.self.now.disks c.args.disk c.args.disk c.index_mut.result.now c.sync.new.disk
    (ap (λ (files : FileState). files.disks) c.self.view_is) refl c.requires c.index_mut.ensures.value c.sync.ensures.shape in
    subst (λ (disk : DiskState). OnErr c.sync.result (IsDurable disk → ⊥)) (sym one.is) c.sync.ensures.err
