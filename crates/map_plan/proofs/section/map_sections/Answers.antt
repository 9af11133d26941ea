-- Sections are planned one after the other.
use Rattle.std.proofs.Common.{◌≡◌, ℕ, ◌++◌, length, List, Ok, Err, rules, sym, ap, subst, arith}
use Rattle.std.specs.Prelude.{All}
use Rattle.std.proofs.lemmas.List.Elements.{All-nil}
use Rattle.lilo_conf.specs.declared.section.Section.{Section}
use Rattle.lilo_model.specs.ConfLawful.{IsLawfulSection}
use Rattle.lilo_conf.specs.View.{section_view}
use Rattle.minix_zones.specs.Volume.{volume_view, past_of, sizes_of}
use Rattle.map_plan.specs.Sections.{section_planned, planned_views, with_section, FitsSection}
use Rattle.lilo_model.specs.Planned.{mapped_section}
use Rattle.map_plan.specs.declared.section.PlannedSection.{PlannedSection}
use Rattle.map_plan.specs.Skipped.{skipped_path}
use Rattle.map_plan.specs.Sound.{machine_for, OnSound}
use Rattle.map_plan.specs.View.{Refuses}
use Rattle.map_plan.proofs.PlannedLemmas.{all_unmapped}
use Rattle.map_plan.proofs.SkippedLemmas.{skips-none, skips-more, skips-all}
use Rattle.map_plan.proofs.SoundLemmas.{sound_back}
use Rattle.map_plan.proofs.TurnLemmas.{found-none, found-more, found-all, refused-more}
use Rattle.map_plan.proofs.section.map_sections.Goals as goal

pub loop-section-init : goal.loop-section-init
loop-section-init g c = record {
  so = found-none (machine_for c.args.volume.now) (volume_view c.args.volume.now) (past_of c.args.volume.now) c.new.result.items c.new.ensures.items;
  fits = subst (All (FitsSection (sizes_of c.args.volume.now))) (sym c.new.ensures.items) (All-nil (FitsSection (sizes_of c.args.volume.now)));
  few = let none = ap (λ (items : List PlannedSection). length items) c.new.ensures.items in omega (arith, none);
  skipped = skips-none (machine_for c.args.volume.now) (volume_view c.args.volume.now) (past_of c.args.volume.now) c.new-2.result.items c.new-2.ensures.items;
  later = omega arith;
  same = search rules;
}

pub loop-section-preserved : goal.loop-section-preserved
loop-section-preserved g c =
    let here = sound_back c.args.volume.now c.loop-section.volume
    (λ volume now machine. with_section (planned_views c.loop-section.found.planned.items) (section_planned now machine volume (section_view c.section-item.result))
    ≡ Ok (planned_views c.add_section.new.found.planned.items))
    c.loop-section.invariant.same c.in_ok-add_section.ensures.sections in
    let there = subst (λ (section : Section). OnSound c.args.volume.now (λ now machine. with_section (planned_views c.loop-section.found.planned.items)
    (section_planned now machine (volume_view c.args.volume.now) (section_view section)) ≡ Ok (planned_views c.add_section.new.found.planned.items)))
    c.section-item.is here in
    record {
      so = found-more (machine_for c.args.volume.now) (volume_view c.args.volume.now) c.args.sections.now c.loop-section.section-index c.section-item.result c.loop-section-test.true
          (planned_views c.loop-section.found.planned.items) (past_of c.args.volume.now) (planned_views c.add_section.new.found.planned.items)
          c.loop-section.invariant.so there;
      fits = subst (λ (sizes : ℕ → ℕ). All (FitsSection sizes) c.add_section.new.found.planned.items) c.loop-section.invariant.same.same_disks.same_size
          (c.in_ok-add_section.ensures.fits
          (subst (λ (sizes : ℕ → ℕ). All (FitsSection sizes) c.loop-section.found.planned.items) (sym c.loop-section.invariant.same.same_disks.same_size) c.loop-section.invariant.fits));
      few = omega (arith, c.loop-section.invariant.few, c.in_ok-add_section.ensures.few);
      skipped = skips-more (machine_for c.args.volume.now) (volume_view c.args.volume.now) c.args.sections.now c.loop-section.section-index c.section-item.result c.loop-section-test.true c.section-item.is
          (past_of c.args.volume.now) c.loop-section.found.skipped.items c.add_section.new.found.skipped.items c.loop-section.invariant.skipped
          (sound_back c.args.volume.now c.loop-section.volume
          (λ volume now machine. c.add_section.new.found.skipped.items ≡ c.loop-section.found.skipped.items
          ++ skipped_path (section_view c.section-item.result) (mapped_section now machine volume (section_view c.section-item.result)))
          c.loop-section.invariant.same c.in_ok-add_section.ensures.skipped);
      later = omega (arith, c.loop-section.invariant.later, c.in_ok-add_section.ensures.later);
      same = search rules;
    }

pub returns-in_err-add_section-clause-sections : goal.returns-in_err-add_section-clause-sections
returns-in_err-add_section-clause-sections g c =
    let given : c.from_residual.result ≡ Err (c.in_err-add_section.field-0.0) = search rules in
    let here = sound_back c.args.volume.now c.loop-section.volume
    (λ volume now machine. Refuses (c.in_err-add_section.field-0.0) (with_section (planned_views c.loop-section.found.planned.items)
    (section_planned now machine volume (section_view c.section-item.result))))
    c.loop-section.invariant.same c.in_err-add_section.ensures.sections in
    let there = subst (λ (section : Section). OnSound c.args.volume.now (λ now machine. Refuses (c.in_err-add_section.field-0.0) (with_section (planned_views c.loop-section.found.planned.items)
    (section_planned now machine (volume_view c.args.volume.now) (section_view section)))))
    c.section-item.is here in
    rw given
    (refused-more (machine_for c.args.volume.now) (volume_view c.args.volume.now) c.args.sections.now c.loop-section.section-index c.section-item.result c.loop-section-test.true
    (planned_views c.loop-section.found.planned.items) (past_of c.args.volume.now) (c.in_err-add_section.field-0.0) c.loop-section.invariant.so there)

pub returns-clause-sections : goal.returns-clause-sections
returns-clause-sections g c =
    found-all (machine_for c.args.volume.now) (volume_view c.args.volume.now) c.args.sections.now c.loop-section.section-index (past_of c.args.volume.now)
    (planned_views c.loop-section.found.planned.items) c.loop-section-test.false c.loop-section.invariant.so

pub returns-clause-skipped : goal.returns-clause-skipped
returns-clause-skipped g c =
    skips-all (machine_for c.args.volume.now) (volume_view c.args.volume.now) c.args.sections.now c.loop-section.section-index (past_of c.args.volume.now)
    c.loop-section.found.skipped.items c.loop-section-test.false c.loop-section.invariant.skipped

pub add_section-requires-clause-lawful : goal.add_section-requires-clause-lawful
add_section-requires-clause-lawful g c =
    subst (λ (section : Section). IsLawfulSection (section_view section)) (sym c.section-item.is)
    (all_unmapped IsLawfulSection section_view c.args.sections.now c.requires.lawful c.loop-section.section-index c.section-item.result c.loop-section-test.true)
