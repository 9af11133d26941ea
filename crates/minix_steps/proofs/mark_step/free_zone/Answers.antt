use Rattle.std.proofs.Common.{false}
use Rattle.lilo_model.specs.MinixParts.{zone_mark_sector}
use Rattle.minix_layout.specs.View.{super_view}
use Rattle.minix_steps.specs.Mark.{zone_remarked}
use Rattle.minix_steps.specs.declared.bit_fault.BitFault.TheVariants as bits
use Rattle.minix_zones.specs.declared.zone_fault.ZoneFault.TheVariants.{Device}
use Rattle.minix_zones.proofs.WriteLemmas.{sector_made, sector_failed}
use Rattle.minix_steps.proofs.NowLemmas.{zone_mark_now}
use Rattle.minix_steps.proofs.MarkSteps.{zone_clear_step}
use Rattle.minix_steps.proofs.mark_step.free_zone.Goals as goal

pub returns-in-Ok-clause-steps : goal.returns-in-Ok-clause-steps
returns-in-Ok-clause-steps g c =
    zone_clear_step c.args.volume.now c.clear_zone.new.volume c.clear_zone.result c.requires.ready c.args.zone c.requires.from c.requires.below c.requires.unused c.clear_zone.ensures.writes

pub returns-in-Err-clause-steps : goal.returns-in-Err-clause-steps
returns-in-Err-clause-steps g c =
    zone_clear_step c.args.volume.now c.clear_zone.new.volume c.clear_zone.result c.requires.ready c.args.zone c.requires.from c.requires.below c.requires.unused c.clear_zone.ensures.writes

pub returns-in-Ok-clause-parts : goal.returns-in-Ok-clause-parts
returns-in-Ok-clause-parts g c told =
    zone_mark_now c.args.volume.now c.clear_zone.new.volume (returns-in-Ok-clause-steps g c) c.requires.ready told c.args.zone false c.requires.from c.requires.below
    (c.in-Ok.ensures.writes.writes.written told)

pub returns-in-Ok-clause-writes : goal.returns-in-Ok-clause-writes
returns-in-Ok-clause-writes g c = sector_made c.args.volume.now c.clear_zone.new.volume (zone_mark_sector (super_view c.args.volume.now.layout) c.args.zone) (zone_remarked c.args.volume.now c.args.zone false) bits.Device Device c.in-Ok.ensures.writes

pub returns-in-Err-clause-writes : goal.returns-in-Err-clause-writes
returns-in-Err-clause-writes g c = sector_failed c.args.volume.now c.clear_zone.new.volume (zone_mark_sector (super_view c.args.volume.now.layout) c.args.zone) (zone_remarked c.args.volume.now c.args.zone false) bits.Device Device _ c.in-Err.ensures.writes
