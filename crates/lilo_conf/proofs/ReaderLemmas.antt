-- What a text says, by its length.
use Rattle.std.proofs.Common.{◌≡◌, ℕ, ◌≤◌, ◌<◌, true, false, List, length, refl}
use Rattle.std.specs.Prelude.{Result, Ok, Err, IfOk, nat_le}
use Rattle.std.proofs.lemmas.Bool.{le-leb, lt-leb}
use Rattle.lilo_model.specs.Conf as model
use Rattle.lilo_model.specs.ConfLawful.{IsLawful}
use Rattle.lilo_model.specs.ConfSettings.{text_settings}
use Rattle.conf_laws.specs.Lawful.{LawfulLaw}
use Rattle.conf_settings.specs.declared.reason.ConfFault.{ConfFault}
use Rattle.lilo_conf.specs.Gives.{Gives, config_from}
use Rattle.lilo_conf.specs.View.{config_view}
use Rattle.lilo_conf.specs.declared.config.Config.{Config}

pub conf_at-long : (text : List ℕ) → model.conf_limit < length text → model.conf_at text ≡ Err (model.too_long (length text))
unfolding model.conf_at
conf_at-long text long = let e : nat_le (length text) 65536 ≡ false = lt-leb (length text) 65536 long in rw e refl

pub conf_at-short : (text : List ℕ) → length text ≤ model.conf_limit → model.conf_at text ≡ config_from (text_settings text)
unfolding model.conf_at
conf_at-short text short = let e : nat_le (length text) 65536 ≡ true = le-leb (length text) 65536 short in rw e refl

-- what a text says may be carried out
pub gives-lawful : LawfulLaw → (text : List ℕ) (result : Result Config ConfFault) → Gives result (model.conf_at text)
    → IfOk result (λ config. IsLawful (config_view config))
gives-lawful law text (Ok config) gives = law text (config_view config) gives
gives-lawful law text (Err fault) gives = tt
