-- What may be staged may be so still after the flush, and is staged then.
use Rattle.std.proofs.Common.{Ok, Err, Result, inr, subst}
use Rattle.minix_zones.specs.Volume.{Syncs}
use Rattle.minix_zones.specs.declared.zone_fault.ZoneFault.{ZoneFault}
use Rattle.minix_zones.specs.declared.zone_fault.ZoneFault.TheVariants as zones
use Rattle.install_settle.proofs.SettleLemmas.{if_ok_map, if_err_map}
use Rattle.install_order.proofs.StagingLemmas.{some_room_forth, stages_from}
use Rattle.install_order.proofs.staging.stage_flushed.Goals as goal

pub stage_files-requires-clause-holes : goal.stage_files-requires-clause-holes
stage_files-requires-clause-holes g c = λ told. c.requires.holes (c.sync.ensures.syncs.flushes.goes_on.told_before told)

pub stage_files-requires-clause-may : goal.stage_files-requires-clause-may
stage_files-requires-clause-may g c = λ told.
    let syncs = c.sync.ensures.syncs in
    some_room_forth c.args.volume c.sync.new.self syncs.kept syncs.flushes.same_now c.args.forced c.args.plan.now c.args.room
    (c.requires.may (syncs.flushes.goes_on.told_before told))

pub returns-in-Ok-clause-staged : goal.returns-in-Ok-clause-staged
returns-in-Ok-clause-staged g c = if_ok_map c.stage_files.result _ _ (λ new stages.
    stages_from c.args.volume c.sync.new.self new
    (subst (λ (r : Result (Unit {0}) ZoneFault). Syncs c.args.volume c.sync.new.self zones.Device r) c.in-Ok.is c.sync.ensures.syncs)
    c.args.forced c.args.present.now c.args.plan.now c.args.room (Ok tt) c.requires.may stages) c.stage_files.ensures.staged

pub returns-in-Ok-clause-halted : goal.returns-in-Ok-clause-halted
returns-in-Ok-clause-halted g c = if_err_map c.stage_files.result _ _ (λ halt stages.
    inr (stages_from c.args.volume c.sync.new.self halt.volume
    (subst (λ (r : Result (Unit {0}) ZoneFault). Syncs c.args.volume c.sync.new.self zones.Device r) c.in-Ok.is c.sync.ensures.syncs)
    c.args.forced c.args.present.now c.args.plan.now c.args.room (Err halt.fault) c.requires.may stages)) c.stage_files.ensures.halted
