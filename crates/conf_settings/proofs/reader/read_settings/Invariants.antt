use Rattle.std.proofs.Common.{◌≡◌, length}
use Rattle.lilo_model.specs.ConfSettings.{text_settings}
use Rattle.conf_settings.specs.View.{opt_view, settings_view}
use Rattle.conf_settings.specs.Step.{settings_behind, joined}
use Rattle.conf_settings.proofs.reader.read_settings.Given as goal

-- the settings so far, and those of the tokens that are left
abbrev pub invariant-loop-settings : goal.invariant-loop-settings
invariant-loop-settings l =
    text_settings l.text ≡ joined (settings_view l.settings) (settings_behind l.text (opt_view l.begun) l.tokens)

abbrev pub decreases-loop-settings : goal.decreases-loop-settings
decreases-loop-settings l = length l.tokens
