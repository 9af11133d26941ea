-- What a step of the reader is in the model, and the settings so far.
use Rattle.std.specs.Prelude.{ℕ, suc, List, [], ◌∷◌, ◌++◌, length, Option, None, Some}
use Rattle.std.specs.Option.{option_map}
use Rattle.lilo_model.specs.ConfTokens.{Piece}
use Rattle.lilo_model.specs.ConfOptions.{Opt}
use Rattle.lilo_model.specs.ConfSettings as model
use Rattle.conf_settings.specs.View.{fault_view, setting_view}
use Rattle.conf_settings.specs.declared.reader.Step.{Step}
use Rattle.conf_settings.specs.declared.reader.Step.TheVariants as steps

-- a step, with the pieces that are left after it
abbrev pub step_view : Step → List Piece → Option model.SettingCut
step_view steps.End left = Some model.End
step_view (steps.Refused fault) left = option_map model.Refused (fault_view fault)
step_view (steps.First setting) left = Some (model.First (setting_view setting) left)

-- pieces, by the first of them and those after it
abbrev pub with_front : Option Piece → List Piece → List Piece
with_front None behind = []
with_front (Some piece) behind = piece ∷ behind

-- the settings of pieces, after an option
abbrev pub settings_behind : List ℕ → Opt → List Piece → model.Settings
settings_behind text begun pieces = model.settings_from (suc (length pieces)) text begun pieces

-- settings with others before them
abbrev pub joined : List model.Setting → model.Settings → model.Settings
joined front cut = record { settings = front ++ cut.settings; refusal = cut.refusal }
