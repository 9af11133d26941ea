-- A section is added, or its path is.
use Rattle.std.proofs.Common.{◌≡◌, List, [], ◌∷◌, ◌++◌, ◌≤◌, ◌+◌, length, Option, Result, Ok, Err, refl, ap, subst, arith}
use Rattle.std.specs.Prelude.{All, IfSome, OnOk}
use Rattle.std.proofs.lemmas.List.Elements.{All-same, All-push}
use Rattle.lilo_conf.specs.View.{section_view}
use Rattle.minix_zones.specs.Volume.{volume_view, past_of, sizes_of}
use Rattle.map_plan.specs.declared.fault.PlanFault.{PlanFault}
use Rattle.map_plan.specs.declared.section.PlannedSection.{PlannedSection}
use Rattle.map_plan.specs.Sections.{section_planned, found_view, planned_view, FitsSection}
use Rattle.map_plan.specs.Sound.{machine_for, OnSound}
use Rattle.map_plan.proofs.SkippedLemmas.{kept-skips, omitted-skips}
use Rattle.map_plan.proofs.TurnLemmas.{section-added, section-skipped}
use Rattle.map_plan.proofs.section.add_section.Goals as goal

pub returns-in-Some-clause-sections : goal.returns-in-Some-clause-sections
returns-in-Some-clause-sections g c =
    let found = subst (λ (found : Option PlannedSection). OnSound c.args.volume.now (λ now machine.
    section_planned now machine (volume_view c.args.volume.now) (section_view c.args.section.now) ≡ Ok (found_view found)))
    c.in-Some.is c.in_ok-kept.ensures.section in
    section-added (machine_for c.args.volume.now) (volume_view c.args.volume.now) (section_view c.args.section.now) c.args.found.now.planned.items (past_of c.args.volume.now)
    c.in-Some.planned c.push_section.new.sections.items c.push_section.result found c.push_section.ensures.pushed c.push_section.ensures.memory

pub returns-in-None-clause-sections : goal.returns-in-None-clause-sections
returns-in-None-clause-sections g c =
    let found = subst (λ (found : Option PlannedSection). OnSound c.args.volume.now (λ now machine.
    section_planned now machine (volume_view c.args.volume.now) (section_view c.args.section.now) ≡ Ok (found_view found)))
    c.in-None.is c.in_ok-kept.ensures.section in
    section-skipped (machine_for c.args.volume.now) (volume_view c.args.volume.now) (section_view c.args.section.now) c.args.found.now.planned.items (past_of c.args.volume.now)
    c.skip_section.result found c.skip_section.ensures.memory

fits-added : {X : Type 0} (P : X → Type 0) (before after : List X) (value : X) (result : Result (Unit {0}) PlanFault) → OnOk result (after ≡ before ++ (value ∷ []))
    → All P before → P value → OnOk result (All P after)
fits-added P before after value (Ok done) is all here = All-same P after (before ++ (value ∷ [])) is (All-push P before value all here)
fits-added P before after value (Err fault) is all here = tt

pub returns-in-Some-clause-fits : goal.returns-in-Some-clause-fits
returns-in-Some-clause-fits g c all =
    fits-added (FitsSection (sizes_of c.args.volume.now)) c.args.found.now.planned.items c.push_section.new.sections.items c.in-Some.planned c.push_section.result
    c.push_section.ensures.pushed all
    (subst (λ (found : Option PlannedSection). IfSome found (FitsSection (sizes_of c.args.volume.now))) c.in-Some.is c.in_ok-kept.ensures.fits)

pub returns-in-Some-clause-skipped : goal.returns-in-Some-clause-skipped
returns-in-Some-clause-skipped g c =
    kept-skips (machine_for c.args.volume.now) (volume_view c.args.volume.now) (section_view c.args.section.now) (past_of c.args.volume.now)
    (planned_view c.in-Some.planned) c.args.found.now.skipped.items c.push_section.result
    (subst (λ (found : Option PlannedSection). OnSound c.args.volume.now (λ now machine.
    section_planned now machine (volume_view c.args.volume.now) (section_view c.args.section.now) ≡ Ok (found_view found)))
    c.in-Some.is c.in_ok-kept.ensures.section)

pub returns-in-None-clause-skipped : goal.returns-in-None-clause-skipped
returns-in-None-clause-skipped g c =
    omitted-skips (machine_for c.args.volume.now) (volume_view c.args.volume.now) (section_view c.args.section.now) (past_of c.args.volume.now)
    c.args.found.now.skipped.items c.skip_section.new.skipped.items c.skip_section.result
    (subst (λ (found : Option PlannedSection). OnSound c.args.volume.now (λ now machine.
    section_planned now machine (volume_view c.args.volume.now) (section_view c.args.section.now) ≡ Ok (found_view found)))
    c.in-None.is c.in_ok-kept.ensures.section)
    c.skip_section.ensures.skipped

length-more : {X : Type 0} (before : List X) (value : X) → length (before ++ (value ∷ [])) ≡ length before + 1
length-more [] value = refl
length-more (x ∷ before) value = let more = length-more before value in omega (arith, more)

few-added : {X : Type 0} (before after : List X) (value : X) (result : Result (Unit {0}) PlanFault) → OnOk result (after ≡ before ++ (value ∷ []))
    → OnOk result (length after ≤ length before + 1)
few-added before after value (Ok done) is =
    let all = length-more before value in
    let same : length after ≡ length (before ++ (value ∷ [])) = ap (λ (items : List _). length items) is in
    omega (arith, all, same)
few-added before after value (Err fault) is = tt

pub returns-in-Some-clause-few : goal.returns-in-Some-clause-few
returns-in-Some-clause-few g c =
    few-added c.args.found.now.planned.items c.push_section.new.sections.items c.in-Some.planned c.push_section.result c.push_section.ensures.pushed
