use Rattle.std.proofs.Common.{rules, tests, ◌∙◌}
use Rattle.std.proofs.lemmas.Iterator.{YieldsList-from_slice}
use Rattle.std.proofs.lemmas.Iterator.Search.{any_from_yields_List}
use Rattle.lilo_model.specs.ConfJudge.{is_same_disk, setting_disk}
use Rattle.conf_settings.specs.View.{setting_view}
use Rattle.conf_judge.proofs.PartLemmas.{any-map}
use Rattle.conf_judge.proofs.place.names_disk.Goals as goal

pub returns : goal.returns
returns c =
    any_from_yields_List (λ other. is_same_disk c.args.disk (setting_disk (setting_view other))) _ _ _ c.any.ensures.ran
    (YieldsList-from_slice c.args.own.now cc) (λ x b q k. search (rules, tests))
    ∙ any-map setting_view (λ other. is_same_disk c.args.disk (setting_disk other)) c.args.own.now
