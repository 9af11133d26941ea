use Rattle.std.proofs.Common.{refl, ◌∙◌}
use Rattle.std.proofs.lemmas.List.{map-append}
use Rattle.conf_settings.specs.View.{opt_view, settings_view}
use Rattle.conf_settings.proofs.StepLemmas.{text_settings-start, joined-first, joined-end, refused_cut, end_step, first_step, setting_cut-shorter}
use Rattle.conf_settings.proofs.reader.read_settings.Goals as goal

pub loop-settings-init : goal.loop-settings-init
loop-settings-init c = rw (c.new-tokens.ensures, c.new-settings.ensures) (text_settings-start c.args.text.now)

pub returns-in-End : goal.returns-in-End
returns-in-End c =
    let cut = end_step _ _ _ c.in_ok-next_step.ensures c.in-End.is in
    let whole = c.loop-settings.invariant ∙ joined-end c.args.text.now (settings_view c.loop-settings.settings) (opt_view c.loop-settings.begun) c.loop-settings.tokens cut in
    record { settings = rw whole refl; refusal = rw whole refl }

pub returns-in-Refused : goal.returns-in-Refused
returns-in-Refused c =
    let whole = refused_cut _ _ _ _ _ _ _ c.loop-settings.invariant c.in_ok-next_step.ensures c.in-Refused.is in
    record { settings = whole.0; refusal = whole.1 }

pub loop-settings-smaller : goal.loop-settings-smaller
loop-settings-smaller c =
    let cut = first_step _ _ _ _ c.in_ok-next_step.ensures c.in-First.is in
    setting_cut-shorter _ _ _ _ _ cut

pub loop-settings-preserved : goal.loop-settings-preserved
loop-settings-preserved c =
    let cut = first_step _ _ _ _ c.in_ok-next_step.ensures c.in-First.is in
    let more = joined-first c.args.text.now (settings_view c.loop-settings.settings) (opt_view c.loop-settings.begun) c.loop-settings.tokens _ _ cut in
    let pushed = c.in_ok-push-in-First.ensures in
    rw (pushed, map-append) (c.loop-settings.invariant ∙ more)
