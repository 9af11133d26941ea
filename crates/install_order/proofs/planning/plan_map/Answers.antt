-- The map that the plan's call gives.
use Rattle.disk_trait.proofs.ToldLemmas.{told_map, told_three}
use Rattle.lilo_model.specs.PlanRefusal.{plan_at}
use Rattle.lilo_conf.specs.View.{config_view}
use Rattle.map_plan.specs.Sound.{machine_for}
use Rattle.minix_zones.specs.View.{span_view}
use Rattle.minix_zones.specs.Volume.{volume_view, past_of, faults_of}
use Rattle.install_order.proofs.RefuseLemmas.{plan-refuses}
use Rattle.install_order.proofs.planning.plan_map.Goals as goal

pub returns-in-Ok-clause-plan : goal.returns-in-Ok-clause-plan
returns-in-Ok-clause-plan g c =
    told_three (past_of c.args.volume.now) _ _ _ _ (λ now is skipped machine sound. record { is = is sound; accepted = machine sound; skipped = skipped sound })
    c.in-Ok.ensures.plan c.in-Ok.ensures.skipped c.in-Ok.ensures.machine

pub returns-in-Err-clause-plan : goal.returns-in-Err-clause-plan
returns-in-Err-clause-plan g c =
    let volume = c.args.volume.now in
    rw c.plan_refusal.ensures.is
    (told_map (past_of volume) _ _ (λ now gives sound.
    plan-refuses c.in-Err.fault (plan_at now (machine_for volume) (volume_view volume) (span_view c.args.boot) (config_view c.args.config) c.args.time)
    (faults_of volume) (faults_of c.plan.new.volume) c.in-Err.ensures.cause (gives sound)) c.in-Err.ensures.plan)
