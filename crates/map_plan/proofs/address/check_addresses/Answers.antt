-- Section by section.
use Rattle.std.proofs.Common.{◌≡◌, Some, Err, refl, rules, sym, subst, ap, ◌∙◌}
use Rattle.lilo_model.specs.PlanRefusal.{mapped_address_check}
use Rattle.map_plan.specs.declared.section.PlannedSection.{PlannedSection}
use Rattle.map_plan.specs.Named.{SectionLiesOnDisk}
use Rattle.map_plan.specs.Sections.{FitsSection, planned_view}
use Rattle.map_plan.specs.Sound.{machine_for}
use Rattle.map_plan.proofs.PassLemmas.{passes-next, passes-all, passes-decided}
use Rattle.map_plan.proofs.address.check_addresses.Goals as goal

pub loop-planned-init : goal.loop-planned-init
loop-planned-init g c = λ config named on. refl

pub check_section_addresses-requires : goal.check_section_addresses-requires
check_section_addresses-requires g c =
    subst (FitsSection _) (sym c.planned-item.is) (c.requires c.loop-planned.planned-index c.planned-item.result c.loop-planned-test.true)

pub loop-planned-preserved : goal.loop-planned-preserved
loop-planned-preserved g c = λ config named on.
    passes-next (mapped_address_check config (machine_for c.args.volume.now)) planned_view c.args.sections.now c.loop-planned.planned-index c.planned-item.result
    c.loop-planned-test.true (c.loop-planned.invariant config named on)
    (ap (λ (planned : PlannedSection). mapped_address_check config (machine_for c.args.volume.now) (planned_view planned)) (sym c.planned-item.is)
    ∙ c.in_ok-check_section_addresses.ensures.decided config named
    (subst (λ (planned : PlannedSection). SectionLiesOnDisk c.args.volume.now.span.disk (planned_view planned)) (sym c.planned-item.is)
    (on c.loop-planned.planned-index c.planned-item.result c.loop-planned-test.true)))

pub returns-in_err-check_section_addresses-clause-decided : goal.returns-in_err-check_section_addresses-clause-decided
returns-in_err-check_section_addresses-clause-decided g c =
    let given : c.from_residual.result ≡ Err (c.in_err-check_section_addresses.field-0.0) = search rules in
    rw given
    (λ config named on.
    passes-decided (mapped_address_check config (machine_for c.args.volume.now)) planned_view c.args.sections.now c.loop-planned.planned-index c.planned-item.result
    (c.in_err-check_section_addresses.field-0.0) c.loop-planned-test.true (c.loop-planned.invariant config named on)
    (ap (λ (planned : PlannedSection). Some (mapped_address_check config (machine_for c.args.volume.now) (planned_view planned))) (sym c.planned-item.is)
    ∙ c.in_err-check_section_addresses.ensures.decided config named
    (subst (λ (planned : PlannedSection). SectionLiesOnDisk c.args.volume.now.span.disk (planned_view planned)) (sym c.planned-item.is)
    (on c.loop-planned.planned-index c.planned-item.result c.loop-planned-test.true))))

pub returns-clause-decided : goal.returns-clause-decided
returns-clause-decided g c = λ config named on.
    passes-all (mapped_address_check config (machine_for c.args.volume.now)) planned_view c.args.sections.now c.loop-planned.planned-index c.loop-planned-test.false
    (c.loop-planned.invariant config named on)

pub returns-in_err-check_section_addresses-clause-cause : goal.returns-in_err-check_section_addresses-clause-cause
returns-in_err-check_section_addresses-clause-cause g c =
    let given : c.from_residual.result ≡ Err (c.in_err-check_section_addresses.field-0.0) = search rules in
    rw given c.in_err-check_section_addresses.ensures.cause
