use Rattle.std.proofs.Common.{rules, tests, ◌∙◌}
use Rattle.std.proofs.lemmas.Iterator.{YieldsList-from_slice}
use Rattle.std.proofs.lemmas.Iterator.Search.{any_from_yields_List}
use Rattle.std.specs.Prelude.{bytes_eq}
use Rattle.lilo_model.specs.Conf.{has_name, section_names}
use Rattle.conf_settings.specs.View.{settings_view}
use Rattle.conf_judge.specs.View.{lists_view}
use Rattle.conf_judge.proofs.PartLemmas.{any-map}
use Rattle.conf_judge.proofs.SectionLemmas.{any-flat_map}
use Rattle.conf_judge.proofs.names.has_name.Goals as goal

pub returns : goal.returns
returns c =
    any_from_yields_List (λ section. has_name c.args.name.now (section_names (settings_view section.now))) _ _ _ c.any.ensures.ran
    (YieldsList-from_slice c.args.sections.now cc) (λ x b q k. search (rules, tests))
    ∙ any-map (λ section. settings_view section.now) (λ section. has_name c.args.name.now (section_names section)) c.args.sections.now
    ∙ any-flat_map section_names (λ other. bytes_eq other c.args.name.now) (lists_view c.args.sections.now)
