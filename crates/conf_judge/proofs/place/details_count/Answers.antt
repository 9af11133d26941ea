use Rattle.std.proofs.Common.{rules, tests, ◌∙◌}
use mathlib.Core.List.{reverse}
use Rattle.std.proofs.lemmas.Iterator.Adapters.{YieldsList-from_rev_slice}
use Rattle.std.proofs.lemmas.Iterator.Consumers.{count_from_yields_List}
use Rattle.std.proofs.lemmas.Iterator.Search.{YieldsList-from_take_while}
use Rattle.std.proofs.lemmas.List.Folds.{length-prefix_len}
use Rattle.lilo_model.specs.ConfOptions.{is_of_disk}
use Rattle.conf_settings.specs.View.{opt_view}
use Rattle.conf_judge.proofs.PartLemmas.{count_details}
use Rattle.conf_judge.proofs.place.details_count.Goals as goal

pub returns-clause-value : goal.returns-clause-value
returns-clause-value c =
    count_from_yields_List c.take_while.result _ c.count.ensures.ran
    (YieldsList-from_take_while _ (λ setting. is_of_disk (opt_view setting.option)) (YieldsList-from_rev_slice c.args.own.now cc)
    c.take_while.ensures.closure c.take_while.ensures.done (λ x b q k. search (rules, tests)))
    ∙ length-prefix_len (λ setting. is_of_disk (opt_view setting.option)) (reverse c.args.own.now)
    ∙ count_details c.args.own.now
