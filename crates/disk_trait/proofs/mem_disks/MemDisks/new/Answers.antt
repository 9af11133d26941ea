use Rattle.std.proofs.Common.{◌≡◌, List, ◌∙◌, ap}
use Rattle.std.proofs.lemmas.Result.{IfOk-weaker}
use Rattle.disk_trait.specs.MemDisks.{StartDisk, MemState, fresh_state, sizes_of, geometries_of, image_of}
use Rattle.disk_trait.proofs.Changed.{image_of-zero, sizes_of-zero, geometries_of-zero, whole-zero}
use Rattle.disk_trait.proofs.mem_disks.MemDisks.new.Goals as goal

pub fresh-requires-clause-whole : goal.fresh-requires-clause-whole
fresh-requires-clause-whole c = rw c.in_ok-start.ensures (whole-zero c.args.disks.now)

pub returns-clause-zeros : goal.returns-clause-zeros
returns-clause-zeros c = IfOk-weaker c.fresh.result (λ (made : MemState). made ≡ fresh_state c.in_ok-start.start.items c.args.room c.args.failing.now) _ (λ made is disk sector. ap (λ (disks : List StartDisk). image_of disks disk sector) (ap (λ (disks : MemState). disks.start) is ∙ c.in_ok-start.ensures) ∙ image_of-zero c.args.disks.now disk sector) c.fresh.ensures

pub returns-clause-size : goal.returns-clause-size
returns-clause-size c = IfOk-weaker c.fresh.result (λ (made : MemState). made ≡ fresh_state c.in_ok-start.start.items c.args.room c.args.failing.now) _ (λ made is disk. ap (λ (disks : List StartDisk). sizes_of disks disk) (ap (λ (disks : MemState). disks.start) is ∙ c.in_ok-start.ensures) ∙ sizes_of-zero c.args.disks.now disk) c.fresh.ensures

pub returns-clause-geometry : goal.returns-clause-geometry
returns-clause-geometry c = IfOk-weaker c.fresh.result (λ (made : MemState). made ≡ fresh_state c.in_ok-start.start.items c.args.room c.args.failing.now) _ (λ made is disk. ap (λ (disks : List StartDisk). geometries_of disks disk) (ap (λ (disks : MemState). disks.start) is ∙ c.in_ok-start.ensures) ∙ geometries_of-zero c.args.disks.now disk) c.fresh.ensures
