use Rattle.std.proofs.Common.{rules, tests, ◌∙◌}
use Rattle.std.proofs.lemmas.Iterator.{YieldsList-from_slice}
use Rattle.std.proofs.lemmas.Iterator.Search.{any_from_yields_List}
use Rattle.lilo_model.specs.ConfOptions.{same_option}
use Rattle.conf_settings.specs.View.{opt_view}
use Rattle.conf_judge.proofs.PartLemmas.{any_setting}
use Rattle.conf_judge.proofs.part.has_option.Goals as goal

pub returns : goal.returns
returns c =
    any_from_yields_List (λ setting. same_option (opt_view setting.option) (opt_view c.args.option)) _ _ _ c.any.ensures.ran
    (YieldsList-from_slice c.args.settings.now cc) (λ x b q k. search (rules, tests))
    ∙ any_setting c.args.option c.args.settings.now
