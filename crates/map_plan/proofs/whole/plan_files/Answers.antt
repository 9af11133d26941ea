-- Each stage's refusal is the plan's, where those before it passed.
use Rattle.std.proofs.Common.{◌≡◌, ℕ, Ok, Err, refl, rules, sym, subst}
use Rattle.lilo_model.specs.MinixNames.{IsSound}
use Rattle.lilo_model.specs.Plan.{Plan}
use Rattle.lilo_model.specs.PlanRefusal.{held_checks, address_checks}
use Rattle.lilo_conf.specs.View.{config_view}
use Rattle.mbr_table.specs.View.{span_view}
use Rattle.minix_zones.specs.Volume.{volume_view, past_of, SameVolume}
use Rattle.map_plan.specs.Sound.{machine_for}
use Rattle.map_plan.specs.View.{Refuses}
use Rattle.map_plan.specs.Whole.{FitsFiles, files_planned, files_view}
use Rattle.map_plan.proofs.PassLemmas.{decides-gives}
use Rattle.map_plan.proofs.PlanLemmas.{files-refuse, held-refuse, places-refuse, plan-made, message-on, all-on}
use Rattle.map_plan.proofs.SoundLemmas.{sound_back, told_all}
use Rattle.map_plan.proofs.whole.plan_files.Goals as goal

pub check_held-requires-clause-fits : goal.check_held-requires-clause-fits
check_held-requires-clause-fits g c =
    subst (λ (sizes : ℕ → ℕ). FitsFiles sizes c.in_ok-files.files) (sym c.find_files.ensures.same.same_disks.same_size) c.in_ok-files.ensures.fits

pub check_places-requires : goal.check_places-requires
check_places-requires g c =
    subst (λ (sizes : ℕ → ℕ). FitsFiles sizes c.in_ok-files.files) (sym c.check_held.ensures.same.same_disks.same_size)
    (subst (λ (sizes : ℕ → ℕ). FitsFiles sizes c.in_ok-files.files) (sym c.find_files.ensures.same.same_disks.same_size) c.in_ok-files.ensures.fits)

pub returns-in_err-files-clause-plan : goal.returns-in_err-files-clause-plan
returns-in_err-files-clause-plan g c =
    let given : c.from_residual.result ≡ Err (c.in_err-files.field-0.0) = search rules in
    rw given
    (files-refuse (machine_for c.args.volume.now) (volume_view c.args.volume.now) (span_view c.args.boot) (config_view c.args.config.now) c.args.now
    (past_of c.args.volume.now) (c.in_err-files.field-0.0) (c.in_err-files.ensures.files c.args.now))

pub returns-in_err-check_held-clause-plan : goal.returns-in_err-check_held-clause-plan
returns-in_err-check_held-clause-plan g c =
    let given : c.from_residual-in_err-check_held.result ≡ Err (c.in_err-check_held.field-0.0) = search rules in
    let fault = c.in_err-check_held.field-0.0 in
    let config = config_view c.args.config.now in
    let plan : Plan = files_view config c.args.now c.in_ok-files.files in
    let refused = sound_back c.args.volume.now c.find_files.new.volume
    (λ volume now machine. files_planned now machine volume config c.args.now ≡ Ok plan → Refuses fault (held_checks now machine volume (span_view c.args.boot) plan))
    c.find_files.ensures.same (c.in_err-check_held.ensures.held c.args.now) in
    rw given
    (held-refuse (machine_for c.args.volume.now) (volume_view c.args.volume.now) (span_view c.args.boot) config c.args.now plan (past_of c.args.volume.now) fault
    (c.in_ok-files.ensures.files c.args.now) refused)

pub returns-in_err-check_places-clause-plan : goal.returns-in_err-check_places-clause-plan
returns-in_err-check_places-clause-plan g c =
    let given : c.from_residual-in_err-check_places.result ≡ Err (c.in_err-check_places.field-0.0) = search rules in
    let fault = c.in_err-check_places.field-0.0 in
    let config = config_view c.args.config.now in
    let plan : Plan = files_view config c.args.now c.in_ok-files.files in
    let both : SameVolume c.args.volume.now c.check_held.new.volume = search rules in
    let held = sound_back c.args.volume.now c.find_files.new.volume
    (λ volume now machine. files_planned now machine volume config c.args.now ≡ Ok plan → held_checks now machine volume (span_view c.args.boot) plan ≡ Ok tt)
    c.find_files.ensures.same (c.in_ok-check_held.ensures.held c.args.now) in
    let refused = sound_back c.args.volume.now c.check_held.new.volume
    (λ volume now machine. files_planned now machine volume config c.args.now ≡ Ok plan → Refuses fault (address_checks machine plan))
    both
    (told_all (past_of c.check_held.new.volume)
    (λ now. IsSound (volume_view c.check_held.new.volume) now
    → files_planned now (machine_for c.check_held.new.volume) (volume_view c.check_held.new.volume) config c.args.now ≡ Ok plan
    → Refuses fault (address_checks (machine_for c.check_held.new.volume) plan))
    (λ now sound is. decides-gives (Err fault) (address_checks (machine_for c.check_held.new.volume) plan)
    (c.in_err-check_places.ensures.decided c.args.now
    (message-on (machine_for c.check_held.new.volume) (volume_view c.check_held.new.volume) (span_view c.args.boot) config c.args.now now plan is)
    (all-on (machine_for c.check_held.new.volume) (volume_view c.check_held.new.volume) (span_view c.args.boot) config c.args.now now plan c.in_ok-files.files.sections.items is refl)))) in
    rw given
    (places-refuse (machine_for c.args.volume.now) (volume_view c.args.volume.now) (span_view c.args.boot) config c.args.now plan (past_of c.args.volume.now) fault
    (c.in_ok-files.ensures.files c.args.now) held refused)

pub returns-clause-plan : goal.returns-clause-plan
returns-clause-plan g c =
    let config = config_view c.args.config.now in
    let plan : Plan = files_view config c.args.now c.in_ok-files.files in
    let both : SameVolume c.args.volume.now c.check_held.new.volume = search rules in
    let held = sound_back c.args.volume.now c.find_files.new.volume
    (λ volume now machine. files_planned now machine volume config c.args.now ≡ Ok plan → held_checks now machine volume (span_view c.args.boot) plan ≡ Ok tt)
    c.find_files.ensures.same (c.in_ok-check_held.ensures.held c.args.now) in
    let made = sound_back c.args.volume.now c.check_held.new.volume
    (λ volume now machine. files_planned now machine volume config c.args.now ≡ Ok plan → address_checks machine plan ≡ Ok tt)
    both
    (told_all (past_of c.check_held.new.volume)
    (λ now. IsSound (volume_view c.check_held.new.volume) now
    → files_planned now (machine_for c.check_held.new.volume) (volume_view c.check_held.new.volume) config c.args.now ≡ Ok plan
    → address_checks (machine_for c.check_held.new.volume) plan ≡ Ok tt)
    (λ now sound is. c.in_ok-check_places.ensures.decided c.args.now
    (message-on (machine_for c.check_held.new.volume) (volume_view c.check_held.new.volume) (span_view c.args.boot) config c.args.now now plan is)
    (all-on (machine_for c.check_held.new.volume) (volume_view c.check_held.new.volume) (span_view c.args.boot) config c.args.now now plan c.in_ok-files.files.sections.items is refl))) in
    plan-made (machine_for c.args.volume.now) (volume_view c.args.volume.now) (span_view c.args.boot) config c.args.now plan (past_of c.args.volume.now)
    (c.in_ok-files.ensures.files c.args.now) held made

pub returns-in_err-check_places-clause-cause : goal.returns-in_err-check_places-clause-cause
returns-in_err-check_places-clause-cause g c =
    let given : c.from_residual-in_err-check_places.result ≡ Err (c.in_err-check_places.field-0.0) = search rules in
    rw given (c.in_err-check_places.ensures.cause _ _)

pub returns-clause-skipped : goal.returns-clause-skipped
returns-clause-skipped g c = c.in_ok-files.ensures.skipped
