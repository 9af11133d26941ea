use Rattle.std.proofs.Common.{false}
use Rattle.lilo_model.specs.MinixParts.{inode_mark_sector}
use Rattle.minix_steps.specs.Mark.{inode_remarked}
use Rattle.minix_steps.specs.declared.bit_fault.BitFault.TheVariants as bits
use Rattle.minix_zones.specs.declared.zone_fault.ZoneFault.TheVariants.{Device}
use Rattle.minix_zones.proofs.WriteLemmas.{sector_made, sector_failed}
use Rattle.minix_steps.proofs.NowLemmas.{inode_mark_now}
use Rattle.minix_steps.proofs.MarkSteps.{inode_clear_step}
use Rattle.minix_steps.proofs.mark_step.free_inode.Goals as goal

pub returns-in-Ok-clause-steps : goal.returns-in-Ok-clause-steps
returns-in-Ok-clause-steps g c =
    inode_clear_step c.args.volume.now c.clear_inode.new.volume c.clear_inode.result c.requires.ready c.args.number c.requires.some c.requires.there c.requires.unnamed c.clear_inode.ensures.writes

pub returns-in-Err-clause-steps : goal.returns-in-Err-clause-steps
returns-in-Err-clause-steps g c =
    inode_clear_step c.args.volume.now c.clear_inode.new.volume c.clear_inode.result c.requires.ready c.args.number c.requires.some c.requires.there c.requires.unnamed c.clear_inode.ensures.writes

pub returns-in-Ok-clause-parts : goal.returns-in-Ok-clause-parts
returns-in-Ok-clause-parts g c told =
    inode_mark_now c.args.volume.now c.clear_inode.new.volume (returns-in-Ok-clause-steps g c) c.requires.ready told c.args.number false c.requires.some c.requires.there
    (c.in-Ok.ensures.writes.writes.written told)

pub returns-in-Ok-clause-writes : goal.returns-in-Ok-clause-writes
returns-in-Ok-clause-writes g c = sector_made c.args.volume.now c.clear_inode.new.volume (inode_mark_sector c.args.number) (inode_remarked c.args.volume.now c.args.number false) bits.Device Device c.in-Ok.ensures.writes

pub returns-in-Err-clause-writes : goal.returns-in-Err-clause-writes
returns-in-Err-clause-writes g c = sector_failed c.args.volume.now c.clear_inode.new.volume (inode_mark_sector c.args.number) (inode_remarked c.args.volume.now c.args.number false) bits.Device Device _ c.in-Err.ensures.writes
