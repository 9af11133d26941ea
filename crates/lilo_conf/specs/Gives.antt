-- When an answer is what the model says of a text.
use Rattle.std.specs.Prelude.{◌≡◌, ℕ, min, [], Option, None, Some, Result, Ok, Err}
use Rattle.conf_settings.specs.View.{fault_view}
use Rattle.conf_settings.specs.declared.option.Opt.TheVariants as options
use Rattle.conf_settings.specs.declared.reason.ConfFault.{ConfFault}
use Rattle.conf_settings.specs.declared.reason.ConfReason.TheVariants as reasons
use Rattle.lilo_model.specs.Checks.{◌>>=◌, no_fault}
use Rattle.lilo_model.specs.Conf as model
use Rattle.lilo_model.specs.ConfJudge.{settings_refusal}
use Rattle.lilo_model.specs.ConfRefusal.{ConfRefusal}
use Rattle.lilo_model.specs.ConfSettings.{Settings}
use Rattle.lilo_conf.specs.View.{config_view}
use Rattle.lilo_conf.specs.declared.config.Config.{Config}

-- the answer where there is no memory
abbrev pub no_memory : ConfFault
no_memory = record { reason = reasons.Memory; option = options.Other; line = 0 }

-- the answer to a text with too many bytes
abbrev pub too_long : ℕ → ConfFault
too_long size = record { reason = reasons.TooLong (min size 4294967295); option = options.Other; line = 0 }

-- a refusal is the text's, unless there was no memory
abbrev pub Refuses : Option ConfRefusal → ConfFault → Result model.Config ConfRefusal → Type 0
Refuses (Some refusal) fault given = given ≡ Err refusal
Refuses None fault given = fault ≡ no_memory

-- what was answered is what the text says, or the first thing that refuses it, unless there was no memory
abbrev pub Gives : Result Config ConfFault → Result model.Config ConfRefusal → Type 0
Gives (Ok config) given = given ≡ Ok (config_view config)
Gives (Err fault) given = Refuses (fault_view fault) fault given

-- what settings say, or the first thing that refuses them
abbrev pub config_from : Settings → Result model.Config ConfRefusal
config_from settings =
    no_fault (settings_refusal [] settings.settings)
    >>= λ _. no_fault settings.refusal
    >>= λ _. model.whole_of (model.parts_of settings.settings)
