use Rattle.std.proofs.Common.{rules}
use Rattle.minix_zones.specs.declared.zone_fault.ZoneFault.TheVariants.{Device}
use Rattle.minix_zones.proofs.WriteLemmas.{sector_refused}
use Rattle.minix_steps.specs.Written.{inode_rewritten}
use Rattle.lilo_model.specs.MinixLayout.{inode_bytes}
use Rattle.minix_layout.specs.View.{kind_view, inode_view}
use Rattle.minix_steps.proofs.InodeLemmas.{inode_there, inode_no_super, inode_inside_mid, inode_harmless_mid, inode_writes}
use Rattle.disk_trait.proofs.MomentLemmas.{on_ok}
use Rattle.minix_steps.proofs.NowLemmas.{inode_now}
use Rattle.minix_steps.proofs.StepLemmas.{no_step, after_step}
use Rattle.minix_steps.proofs.inode.write_inode.Goals as goal

pub read_sector-requires : goal.read_sector-requires
read_sector-requires g c =
    let place = rw c.layout-2.ensures.value at c.where_inode-place.ensures.place in
    inode_there c.args.volume.now c.args.number c.requires.some c.requires.there _ _ place

pub returns-in_err-read_sector-clause-steps : goal.returns-in_err-read_sector-clause-steps
returns-in_err-read_sector-clause-steps g c =
    no_step c.args.volume.now c.read_sector.new.self c.requires.ready c.read_sector.ensures.same c.read_sector.ensures.later

pub write_beside-requires-clause-no_super : goal.write_beside-requires-clause-no_super
write_beside-requires-clause-no_super g c =
    let place = rw c.layout-2.ensures.value at c.where_inode-place.ensures.place in
    inode_no_super c.args.volume.now c.args.number c.requires.some c.requires.there _ _ place

pub write_beside-requires-clause-inside : goal.write_beside-requires-clause-inside
write_beside-requires-clause-inside g c =
    let place = rw c.layout-2.ensures.value at c.where_inode-place.ensures.place in
    let put = rw (c.layout.ensures.value, c.from.ensures) at c.put_inode.ensures.bytes in
    inode_inside_mid c.args.volume.now c.args.number c.requires.some c.requires.there _ _ place
    c.read_sector.new.self c.read_sector.ensures.same c.read_sector.new.into c.put_inode.new.sector _ c.in_ok-read_sector.ensures.bytes put

pub write_beside-requires-clause-harmless : goal.write_beside-requires-clause-harmless
write_beside-requires-clause-harmless g c =
    let place = rw c.layout-2.ensures.value at c.where_inode-place.ensures.place in
    let put = rw (c.layout.ensures.value, c.from.ensures) at c.put_inode.ensures.bytes in
    let long = rw c.layout.ensures.value at c.put_inode.ensures.length in
    inode_harmless_mid c.args.volume.now c.args.number c.requires.some c.requires.there _ _ place
    c.read_sector.new.self c.read_sector.ensures.same c.read_sector.new.into c.put_inode.new.sector _ c.in_ok-read_sector.ensures.bytes put
    c.requires.ready c.requires.unnamed long

pub returns-clause-writes : goal.returns-clause-writes
returns-clause-writes g c =
    let place = rw c.layout-2.ensures.value at c.where_inode-place.ensures.place in
    let put = rw (c.layout.ensures.value, c.from.ensures) at c.put_inode.ensures.bytes in
    inode_writes c.args.volume.now c.args.number c.requires.some c.requires.there _ _ place
    c.read_sector.new.self c.read_sector.ensures.same c.read_sector.new.into c.put_inode.new.sector _ c.in_ok-read_sector.ensures.bytes put
    c.write_beside.new.volume c.write_beside.result c.read_sector.ensures.later c.write_beside.ensures.writes

pub returns-in_err-read_sector-clause-writes : goal.returns-in_err-read_sector-clause-writes
returns-in_err-read_sector-clause-writes g c =
    let old = c.args.volume.now in
    sector_refused old c.read_sector.new.self _ (inode_rewritten old c.args.number (inode_view c.args.inode.now)) Device _ (λ P. search rules)
    c.read_sector.ensures.same c.read_sector.ensures.later (search rules)

pub returns-clause-steps : goal.returns-clause-steps
returns-clause-steps g c =
    after_step c.args.volume.now c.read_sector.new.self c.write_beside.new.volume c.requires.ready c.read_sector.ensures.same c.read_sector.ensures.later c.write_beside.ensures.steps

pub returns-clause-parts : goal.returns-clause-parts
returns-clause-parts g c told =
    let old = c.args.volume.now in
    let new = c.write_beside.new.volume in
    let writes = returns-clause-writes g c in
    let long = rw c.layout.ensures.value at c.put_inode.ensures.length in
    on_ok c.write_beside.result _ _ (writes.writes.written told)
    (inode_now old new (returns-clause-steps g c) c.requires.ready told c.args.number (inode_bytes (kind_view old.layout.kind) (inode_view c.args.inode.now)) c.requires.some c.requires.there long)
