use Rattle.std.proofs.Common.{◌≡◌, ◌∙◌, sym, refl, arith, drop, []}
use Rattle.std.proofs.lemmas.List.{drop_all}
use Rattle.lilo_model.specs.Conf.{sections_refusal}
use Rattle.conf_judge.proofs.SectionLemmas.{lists_at, sections_refusal-here, sections_refusal-next}
use Rattle.conf_judge.proofs.section.sections_refusal.Goals as goal

pub returns-in-Some : goal.returns-in-Some
returns-in-Some c =
    let here = lists_at c.args.sections.now c.loop-section.section-index c.section-item.result c.loop-section-test.true c.section-item.is in
    rw (← c.loop-section.invariant, here) (sections_refusal-here _ _ _ c.in-Some.fault c.in-Some.ensures)

pub loop-section-preserved : goal.loop-section-preserved
loop-section-preserved c =
    let here = lists_at c.args.sections.now c.loop-section.section-index c.section-item.result c.loop-section-test.true c.section-item.is in
    sym (sections_refusal-next _ _ _ c.in_default.ensures) ∙ rw here at c.loop-section.invariant

pub returns : goal.returns
unfolding sections_refusal
returns c =
    let none : drop c.loop-section.section-index c.args.sections.now ≡ [] = drop_all c.loop-section.section-index c.args.sections.now (omega arith) in
    rw (← c.loop-section.invariant, none) refl
