-- Disks, the message, and each section.
use Rattle.std.proofs.Common.{◌≡◌, List, Ok, Err, refl, rules, sym, subst}
use Rattle.std.specs.Prelude.{All}
use Rattle.lilo_model.specs.MinixNames.{IsSound}
use Rattle.lilo_model.specs.Plan.{Plan}
use Rattle.lilo_model.specs.PlanRefusal.{each_passes, if_there, disk_check, message_check, mapped_check, held_checks}
use Rattle.lilo_conf.specs.declared.disk.DiskSection.{DiskSection}
use Rattle.lilo_conf.specs.View.{config_view, disks_view}
use Rattle.mbr_table.specs.View.{span_view}
use Rattle.minix_zones.specs.Volume.{volume_view, past_of}
use Rattle.map_plan.specs.declared.section.PlannedSection.{PlannedSection}
use Rattle.map_plan.specs.Sections.{IsPlannedIn, planned_view, planned_views}
use Rattle.map_plan.specs.Sound.{machine_for, OnSound}
use Rattle.map_plan.specs.View.{Refuses, Gives}
use Rattle.map_plan.specs.Whole.{files_planned, files_view}
use Rattle.map_plan.proofs.PassLemmas.{decides-gives}
use Rattle.map_plan.proofs.PlanLemmas.{all-planned, disks-refuse, message-refuse, held-by}
use Rattle.map_plan.proofs.SoundLemmas.{told_all, told_map}
use Rattle.map_plan.proofs.whole.check_held.Goals as goal

pub returns-in_err-check_disks-clause-held : goal.returns-in_err-check_disks-clause-held
returns-in_err-check_disks-clause-held g c time =
    let given : c.from_residual.result ≡ Err (c.in_err-check_disks.field-0.0) = search rules in
    let fault = c.in_err-check_disks.field-0.0 in
    let machine = machine_for c.args.volume.now in
    let volume = volume_view c.args.volume.now in
    let boot = span_view c.args.boot in
    let config = config_view c.args.config.now in
    let plan : Plan = files_view config time c.args.files.now in
    let refused = subst (λ (disks : List DiskSection). Refuses fault (each_passes (disk_check machine) (disks_view disks))) c.items.ensures
    (decides-gives (Err fault) (each_passes (disk_check machine) (disks_view c.items.result.now)) c.in_err-check_disks.ensures) in
    rw given
    (told_all (past_of c.args.volume.now)
    (λ now. IsSound volume now → files_planned now machine volume config time ≡ Ok plan → Refuses fault (held_checks now machine volume boot plan))
    (λ now sound is. disks-refuse now machine volume boot plan fault refused))

pub returns-in_err-check_some_message-clause-held : goal.returns-in_err-check_some_message-clause-held
returns-in_err-check_some_message-clause-held g c time =
    let given : c.from_residual-in_err-check_some_message.result ≡ Err (c.in_err-check_some_message.field-0.0) = search rules in
    let fault = c.in_err-check_some_message.field-0.0 in
    let machine = machine_for c.args.volume.now in
    let volume = volume_view c.args.volume.now in
    let boot = span_view c.args.boot in
    let config = config_view c.args.config.now in
    let plan : Plan = files_view config time c.args.files.now in
    let disks = subst (λ (disks : List DiskSection). each_passes (disk_check machine) (disks_view disks) ≡ Ok tt) c.items.ensures c.in_ok-check_disks.ensures in
    let refused = decides-gives (Err fault) (if_there message_check plan.message) c.in_err-check_some_message.ensures in
    rw given
    (told_all (past_of c.args.volume.now)
    (λ now. IsSound volume now → files_planned now machine volume config time ≡ Ok plan → Refuses fault (held_checks now machine volume boot plan))
    (λ now sound is. message-refuse now machine volume boot plan fault disks refused))

pub returns-clause-held : goal.returns-clause-held
returns-clause-held g c time =
    let machine = machine_for c.args.volume.now in
    let volume = volume_view c.args.volume.now in
    let boot = span_view c.args.boot in
    let config = config_view c.args.config.now in
    let plan : Plan = files_view config time c.args.files.now in
    let disks = subst (λ (disks : List DiskSection). each_passes (disk_check machine) (disks_view disks) ≡ Ok tt) c.items.ensures c.in_ok-check_disks.ensures in
    let held = subst (λ (sections : List PlannedSection). OnSound c.args.volume.now (λ now machine. All (λ planned. IsPlannedIn now machine volume (planned_view planned)) sections
    → Gives (λ done. tt) c.check_sections.result (each_passes (mapped_check now volume boot) (planned_views sections)))) c.as_slice.ensures.value c.check_sections.ensures.sections in
    told_map (past_of c.args.volume.now)
    (λ now. IsSound volume now → All (λ planned. IsPlannedIn now machine volume (planned_view planned)) c.args.files.now.sections.items
    → Gives (λ done. tt) c.check_sections.result (each_passes (mapped_check now volume boot) (planned_views c.args.files.now.sections.items)))
    (λ now. IsSound volume now → files_planned now machine volume config time ≡ Ok plan → Gives (λ done. tt) c.check_sections.result (held_checks now machine volume boot plan))
    (λ now is sound files. subst (Gives (λ done. tt) c.check_sections.result)
    (sym (held-by now machine volume boot plan disks c.in_ok-check_some_message.ensures))
    (is sound (all-planned machine volume boot config time now plan c.args.files.now.sections.items files refl)))
    held
