-- A default that is asked for.
use Rattle.std.specs.Prelude.{ℕ, List, if◌then◌else◌, Option, None, Some}
use Rattle.lilo_model.specs.Conf.{has_name, line_of}
use Rattle.lilo_model.specs.ConfOptions as options
use Rattle.lilo_model.specs.ConfRefusal as reasons
use Rattle.lilo_model.specs.ConfRefusal.{ConfRefusal}
use Rattle.lilo_model.specs.ConfSettings.{Setting}

-- why it is refused beside names
abbrev pub wanted_refusal : List Setting → List ℕ → List (List ℕ) → Option ConfRefusal
wanted_refusal front wanted names =
    if has_name wanted names then None
    else Some (record { reason = reasons.NoDefault; option = options.Default; line = line_of options.Default front })
