-- The devices, then the map.
use Rattle.disk_trait.specs.Past.{Image}
use Rattle.disk_trait.proofs.ToldLemmas.{told_map, told_both}
use Rattle.lilo_conf.specs.View.{config_view}
use Rattle.lilo_model.specs.Disks.{Machine}
use Rattle.lilo_model.specs.MinixNames.{IsSound}
use Rattle.lilo_model.specs.MinixParts as volumes
use Rattle.map_plan.specs.Sound.{machine_for}
use Rattle.mbr_table.specs.View.{device_view}
use Rattle.minix_zones.specs.View.{span_view}
use Rattle.minix_zones.specs.Volume.{volume_view, past_of}
use Rattle.install_settle.proofs.FoundLemmas.{on_disks_back}
use Rattle.install_order.specs.Plans.{GivesChoices}
use Rattle.install_order.proofs.PlanLemmas.{chosen_again, not_again}
use Rattle.install_order.proofs.planning.choose_apart.Goals as goal

pub returns-in-Ok-clause-found : goal.returns-in-Ok-clause-found
returns-in-Ok-clause-found g c =
    let v = c.args.volume.now in
    let config = config_view c.args.config in
    let span = span_view c.args.boot in
    let P : volumes.Volume → Machine → Image → Type 0 = λ view machine image. IsSound view image
    → GivesChoices image machine view config span c.args.time c.args.settled c.args.found.now c.choose.result in
    told_both (past_of v) _ _ _ (λ now again gives sound.
    chosen_again now (machine_for v) (volume_view v) config (device_view c.args.device) span c.args.time c.args.settled c.args.found.now again c.choose.result (gives sound))
    c.in-Ok.ensures.again (on_disks_back v c.check_again.new.volume P c.in-Ok.ensures.same c.choose.ensures.found)

pub returns-in-Err-clause-found : goal.returns-in-Err-clause-found
returns-in-Err-clause-found g c =
    let v = c.args.volume.now in
    told_map (past_of v) _ _ (λ now refused sound.
    not_again now (machine_for v) (volume_view v) (config_view c.args.config) (device_view c.args.device) (span_view c.args.boot) c.args.time c.args.settled
    c.args.found.now c.in-Err.fault refused)
    c.in-Err.ensures.again
