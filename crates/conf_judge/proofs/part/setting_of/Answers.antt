use Rattle.std.proofs.Common.{rules, tests, ◌∙◌, ap}
use Rattle.std.specs.Option.{option_map}
use Rattle.std.proofs.lemmas.Iterator.{YieldsList-from_slice}
use Rattle.std.proofs.lemmas.Iterator.Search.{find_from_yields_List}
use Rattle.lilo_model.specs.ConfOptions.{same_option}
use Rattle.conf_settings.specs.View.{opt_view, setting_view}
use Rattle.conf_judge.proofs.PartLemmas.{find_setting}
use Rattle.conf_judge.proofs.part.setting_of.Goals as goal

pub returns : goal.returns
returns c =
    ap (option_map setting_view)
    (find_from_yields_List (λ setting. same_option (opt_view setting.option) (opt_view c.args.option)) _ _ c.find.result c.find.ensures.ran
    (YieldsList-from_slice c.args.settings.now cc) (λ x b q k. search (rules, tests)))
    ∙ find_setting c.args.option c.args.settings.now
