use Rattle.disk_trait.proofs.CallLemmas.{on_ok_held}
use Rattle.minix_zones.specs.declared.zone_fault.ZoneFault.TheVariants.{Device}
use Rattle.minix_steps.proofs.StepLemmas.{flush_step, flush_sound}
use Rattle.minix_steps.proofs.flush.settle.Goals as goal

pub returns-clause-steps : goal.returns-clause-steps
returns-clause-steps g c = flush_step c.args.volume.now c.sync.new.self Device c.sync.result c.requires c.sync.ensures.syncs

pub returns-clause-sound : goal.returns-clause-sound
returns-clause-sound g c told =
    on_ok_held c.sync.result _ (flush_sound c.args.volume.now c.sync.new.self Device c.sync.result c.requires c.sync.ensures.syncs told)
