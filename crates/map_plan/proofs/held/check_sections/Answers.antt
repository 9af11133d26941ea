-- Section by section.
use Rattle.std.proofs.Common.{◌≡◌, ℕ, Ok, Err, rules, sym, subst, arith}
use Rattle.lilo_model.specs.PlanRefusal.{mapped_check}
use Rattle.mbr_table.specs.View.{span_view}
use Rattle.minix_zones.specs.Volume.{volume_view, past_of}
use Rattle.map_plan.specs.Sections.{FitsSection, IsPlannedIn, planned_view}
use Rattle.map_plan.specs.Sound.{machine_for}
use Rattle.map_plan.specs.View.{Refuses}
use Rattle.map_plan.proofs.HeldLemmas.{held-none, held-more, held-refused, held-all}
use Rattle.map_plan.proofs.SoundLemmas.{sound_back}
use Rattle.map_plan.proofs.held.check_sections.Goals as goal

pub loop-planned-init : goal.loop-planned-init
loop-planned-init g c = record {
  so = held-none (machine_for c.args.volume.now) (volume_view c.args.volume.now) (span_view c.args.boot) c.args.sections.now (past_of c.args.volume.now);
  later = omega arith;
  same = search rules;
}

pub check_section-requires : goal.check_section-requires
check_section-requires g c =
    subst (λ (sizes : ℕ → ℕ). FitsSection sizes c.planned-item.result) (sym c.loop-planned.invariant.same.same_disks.same_size)
    (subst (FitsSection _) (sym c.planned-item.is) (c.requires c.loop-planned.planned-index c.planned-item.result c.loop-planned-test.true))

pub loop-planned-preserved : goal.loop-planned-preserved
loop-planned-preserved g c =
    let here = sound_back c.args.volume.now c.loop-planned.volume
    (λ volume now machine. IsPlannedIn now machine volume (planned_view c.planned-item.result)
    → mapped_check now volume (span_view c.args.boot) (planned_view c.planned-item.result) ≡ Ok tt)
    c.loop-planned.invariant.same c.in_ok-check_section.ensures.section in
    record {
      so = held-more (machine_for c.args.volume.now) (volume_view c.args.volume.now) (span_view c.args.boot) c.args.sections.now c.loop-planned.planned-index
          c.planned-item.result c.loop-planned-test.true c.planned-item.is (past_of c.args.volume.now) c.loop-planned.invariant.so here;
      later = omega (arith, c.loop-planned.invariant.later, c.in_ok-check_section.ensures.later);
      same = search rules;
    }

pub returns-in_err-check_section-clause-sections : goal.returns-in_err-check_section-clause-sections
returns-in_err-check_section-clause-sections g c =
    let given : c.from_residual.result ≡ Err (c.in_err-check_section.field-0.0) = search rules in
    let here = sound_back c.args.volume.now c.loop-planned.volume
    (λ volume now machine. IsPlannedIn now machine volume (planned_view c.planned-item.result)
    → Refuses (c.in_err-check_section.field-0.0) (mapped_check now volume (span_view c.args.boot) (planned_view c.planned-item.result)))
    c.loop-planned.invariant.same c.in_err-check_section.ensures.section in
    rw given
    (held-refused (machine_for c.args.volume.now) (volume_view c.args.volume.now) (span_view c.args.boot) c.args.sections.now c.loop-planned.planned-index
    c.planned-item.result c.loop-planned-test.true c.planned-item.is (past_of c.args.volume.now) (c.in_err-check_section.field-0.0) c.loop-planned.invariant.so here)

pub returns-clause-sections : goal.returns-clause-sections
returns-clause-sections g c =
    held-all (machine_for c.args.volume.now) (volume_view c.args.volume.now) (span_view c.args.boot) c.args.sections.now c.loop-planned.planned-index
    (past_of c.args.volume.now) c.loop-planned-test.false c.loop-planned.invariant.so
