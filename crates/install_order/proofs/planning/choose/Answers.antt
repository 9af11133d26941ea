-- The map, then the rest.
use Rattle.std.proofs.Common.{◌≡◌, ◌∙◌, Err, rules, sym, ap, subst}
use Rattle.std.proofs.lemmas.Result.{IfOk-weaker}
use Rattle.disk_trait.specs.declared.disks.Span.{Span}
use Rattle.disk_trait.specs.Past.{Image}
use Rattle.disk_trait.proofs.ToldLemmas.{told_map, told_both}
use Rattle.lilo_conf.specs.View.{config_view}
use Rattle.lilo_conf.specs.declared.config.Config.{Config}
use Rattle.lilo_model.specs.Disks.{Machine}
use Rattle.lilo_model.specs.MinixNames.{IsSound}
use Rattle.lilo_model.specs.MinixParts as volumes
use Rattle.map_plan.specs.Sound.{machine_for}
use Rattle.minix_zones.specs.View.{span_view}
use Rattle.minix_zones.specs.Volume.{volume_view, past_of, faults_of}
use Rattle.install_settle.proofs.FoundLemmas.{on_disks_back}
use Rattle.install_order.specs.Plans.{GivesChoices, IsMap}
use Rattle.install_order.proofs.PlanLemmas.{no_map, cause_later}
use Rattle.install_order.proofs.planning.choose.Goals as goal

pub returns-in_err-plan-clause-found : goal.returns-in_err-plan-clause-found
returns-in_err-plan-clause-found g c =
    let v = c.args.volume.now in
    let fault = c.in_err-plan.field-0.0 in
    let is : c.from_residual.result ≡ Err fault = search rules in
    rw is
    (told_map (past_of v) _ _ (λ now gives sound.
    no_map now (machine_for v) (volume_view v) (config_view c.args.config) (span_view c.args.boot) c.args.time c.args.settled c.args.found.now fault (gives sound))
    c.in_err-plan.ensures.plan)

pub returns-clause-found : goal.returns-clause-found
returns-clause-found g c =
    let v = c.args.volume.now in
    let mid = c.plan_map.new.volume in
    let plan = c.in_ok-plan.plan in
    let span = span_view c.args.boot in
    let time = c.args.time in
    let P : volumes.Volume → Machine → Image → Type 0 = λ view machine image. IsSound view image → IsMap image machine view (config_view plan.config) span time plan
    → GivesChoices image machine view (config_view plan.config) span time c.args.settled c.args.found.now c.choose_for.result in
    told_both (past_of v) _ _ _ (λ now is gives sound.
    let F : Config → Type 0 = λ config. IsMap now (machine_for v) (volume_view v) (config_view config) span time plan in
    let G : Config → Type 0 = λ config. GivesChoices now (machine_for v) (volume_view v) (config_view config) span time c.args.settled c.args.found.now c.choose_for.result in
    subst G c.in_ok-plan.ensures.config (gives sound (subst F (sym c.in_ok-plan.ensures.config) (is sound))))
    c.in_ok-plan.ensures.plan (on_disks_back v mid P c.in_ok-plan.ensures.same c.choose_for.ensures.found)

pub returns-clause-cause : goal.returns-clause-cause
returns-clause-cause g c =
    cause_later c.choose_for.result (faults_of c.args.volume.now) (faults_of c.plan_map.new.volume) (faults_of c.choose_for.new.volume) c.in_ok-plan.ensures.later c.choose_for.ensures.cause

pub returns-clause-volume_disk : goal.returns-clause-volume_disk
returns-clause-volume_disk g c =
    IfOk-weaker c.choose_for.result _ _ (λ choices is. is ∙ ap (λ (span : Span). span.disk) c.in_ok-plan.ensures.same.same_span) c.choose_for.ensures.volume_disk
