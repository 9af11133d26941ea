-- What a text says may be carried out.
use Rattle.std.specs.Prelude.{◌≡◌, ℕ, List, Ok}
use Rattle.lilo_model.specs.Conf.{Config, conf_at}
use Rattle.lilo_model.specs.ConfLawful.{IsLawful}

-- for each text
abbrev pub LawfulLaw : Type 0
LawfulLaw = (text : List ℕ) (config : Config) → conf_at text ≡ Ok config → IsLawful config
