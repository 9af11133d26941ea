-- The message, and each section.
use Rattle.std.proofs.Common.{◌≡◌, List, Some, Err, refl, rules, sym, subst, ap, ◌∙◌}
use Rattle.std.specs.Prelude.{All}
use Rattle.lilo_model.specs.ConfOptions as options
use Rattle.lilo_model.specs.Plan.{Plan}
use Rattle.lilo_model.specs.PlanRefusal.{each_passes, if_there, mapped_file_check, mapped_address_check}
use Rattle.lilo_conf.specs.View.{config_view}
use Rattle.map_plan.specs.declared.section.PlannedSection.{PlannedSection}
use Rattle.map_plan.specs.Named.{SectionLiesOnDisk}
use Rattle.map_plan.specs.Sections.{planned_view, planned_views}
use Rattle.map_plan.specs.Sound.{machine_for}
use Rattle.map_plan.specs.View.{Decides}
use Rattle.map_plan.specs.Whole.{files_view}
use Rattle.map_plan.proofs.PassLemmas.{decides-first}
use Rattle.map_plan.proofs.PlanLemmas.{address-by, address-first}
use Rattle.map_plan.proofs.whole.check_places.Goals as goal

pub returns-in_err-check_optional_addresses-clause-decided : goal.returns-in_err-check_optional_addresses-clause-decided
returns-in_err-check_optional_addresses-clause-decided g c time message sections =
    let given : c.from_residual.result ≡ Err (c.in_err-check_optional_addresses.field-0.0) = search rules in
    let fault = c.in_err-check_optional_addresses.field-0.0 in
    let machine = machine_for c.args.volume.now in
    let config = config_view c.args.config.now in
    let plan : Plan = files_view config time c.args.files.now in
    rw given
    (ap Some (address-first machine plan)
    ∙ decides-first fault (if_there (mapped_file_check config machine options.Message) plan.message) (each_passes (mapped_address_check config machine) plan.sections)
    (c.in_err-check_optional_addresses.ensures.decided config (record { mode = refl; compact = refl }) message))

pub returns-clause-decided : goal.returns-clause-decided
returns-clause-decided g c time message sections =
    let machine = machine_for c.args.volume.now in
    let config = config_view c.args.config.now in
    let plan : Plan = files_view config time c.args.files.now in
    let slice = subst (λ (items : List PlannedSection). All (λ planned. SectionLiesOnDisk c.args.volume.now.span.disk (planned_view planned)) items) (sym c.as_slice.ensures.value) sections in
    subst (Decides c.check_addresses.result)
    (ap (λ (items : List PlannedSection). each_passes (mapped_address_check config machine) (planned_views items)) c.as_slice.ensures.value
    ∙ sym (address-by machine plan (c.in_ok-check_optional_addresses.ensures.decided config (record { mode = refl; compact = refl }) message)))
    (c.check_addresses.ensures.decided config (record { mode = refl; compact = refl }) slice)

pub returns-in_err-check_optional_addresses-clause-cause : goal.returns-in_err-check_optional_addresses-clause-cause
returns-in_err-check_optional_addresses-clause-cause g c =
    let given : c.from_residual.result ≡ Err (c.in_err-check_optional_addresses.field-0.0) = search rules in
    rw given c.in_err-check_optional_addresses.ensures.cause
