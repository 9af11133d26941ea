use Rattle.std.proofs.Common.{refl, sym, ◌∙◌, ap, subst}
use Rattle.disk_trait.specs.MemDisks.{StartDisk, IsInRange, sizes_of}
use Rattle.disk_trait.proofs.Changed.{changed, set-changes}
use Rattle.disk_trait.proofs.left.make.Goals as goal

pub returns-in-Write-clause-image : goal.returns-in-Write-clause-image
returns-in-Write-clause-image c =
    let inside = subst (IsInRange (sizes_of c.args.disks.now)) c.in-Write.is c.requires in
    let set = c.set.ensures ∙ ap (λ (disk : StartDisk). changed disk c.in-Write.sector c.in-Write.bytes) (sym c.index-disks-from.is) in
    rw c.in-Write.is (set-changes c.args.disks.now c.args.disks.now _ _ _ _ _ _ _ refl c.from.ensures refl inside c.index-disks-from.is set).image
