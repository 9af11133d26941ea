use Rattle.std.proofs.Common.{◌≡◌, ◌∙◌, sym, take}
use Rattle.lilo_model.specs.Conf as model
use Rattle.conf_settings.specs.View.{settings_view}
use Rattle.conf_judge.specs.View.{lists_view}
use Rattle.conf_judge.proofs.PartsLemmas.{parts_of-front, rest_of}
use Rattle.conf_judge.proofs.parts.parts_of.Goals as goal

pub sections_of-requires : goal.sections_of-requires
sections_of-requires c =
    let cut = parts_of-front c.args.settings.now in
    rw (rest_of c.args.settings.now c.front_length-count.result, c.front_length-count.ensures.value) cut.behind

pub returns : goal.returns
returns c =
    let cut = parts_of-front c.args.settings.now in
    let front : settings_view (take c.front_length-count.result c.args.settings.now) ≡ (model.parts_of (settings_view c.args.settings.now)).front =
    rw c.front_length-count.ensures.value (sym cut.front) in
    let sections : lists_view c.in_ok-sections.sections.items ≡ (model.parts_of (settings_view c.args.settings.now)).sections =
    c.in_ok-sections.ensures ∙ rw (rest_of c.args.settings.now c.front_length-count.result, c.front_length-count.ensures.value) (sym cut.sections) in
    λ i. record { front = front i; sections = sections i }
