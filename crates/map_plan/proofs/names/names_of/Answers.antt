-- Section by section.
use Rattle.std.proofs.Common.{◌++◌, sym, ap, ◌∙◌}
use Rattle.lilo_model.specs.ConfLawful.{names_of_section}
use Rattle.lilo_conf.specs.View.{section_view}
use Rattle.map_plan.proofs.NamesLemmas.{names-more, names-all}
use Rattle.map_plan.proofs.names.names_of.Goals as goal

pub loop-planned-preserved : goal.loop-planned-preserved
loop-planned-preserved c =
    c.in_ok-add_names.ensures
    ∙ ap (λ names. names ++ names_of_section (section_view c.planned-item.result.section)) c.loop-planned.invariant
    ∙ sym (names-more c.args.sections.now c.loop-planned.planned-index c.planned-item.result c.loop-planned-test.true c.planned-item.is)

pub returns : goal.returns
returns c =
    c.new.ensures ∙ c.loop-planned.invariant ∙ names-all c.args.sections.now c.loop-planned.planned-index c.loop-planned-test.false
