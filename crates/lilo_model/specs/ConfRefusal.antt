-- Why a configuration is refused, and the line that says so (this project's own).
use Rattle.std.specs.Prelude.{ℕ, List, ◌++◌, codes, decimal}
use Rattle.lilo_model.specs.ConfTokens as tokens
use Rattle.lilo_model.specs.ConfTokens.{TextFault}
use Rattle.lilo_model.specs.ConfOptions.{Opt, opt_name}

-- what is wrong
pub data ConfReason : Type 0 where
  -- the word is no option
  Unknown : ConfReason
  -- the option is one of LILO that isn't taken here
  LeftOut : ConfReason
  -- it appears a second time
  Repeated : ConfReason
  -- it wants a value and has none
  NoValue : ConfReason
  -- its value is out of its range, or it has one and wants none
  BadValue : ConfReason
  -- it isn't allowed there
  Misplaced : ConfReason
  -- the name has too many bytes
  NameTooLong : ConfReason
  -- the name appears a second time
  RepeatedName : ConfReason
  -- there are more names than a map holds
  TooManyNames : ConfReason
  -- it isn't allowed beside this option
  Excludes : (other : Opt) → ConfReason
  -- the default is no name
  NoDefault : ConfReason
  -- there is no section
  NoImages : ConfReason
  -- it has no effect without this option
  Needs : (other : Opt) → ConfReason
  -- the text can't be cut into tokens
  Text : (fault : TextFault) → ConfReason
  -- the text has so many bytes
  TooLong : (size : ℕ) → ConfReason

-- a refusal: what is wrong, with which option, on which line
pub record ConfRefusal : Type 0 where
  pub reason : ConfReason
  pub option : Opt
  pub line : ℕ

-- the text of a reason
unfoldable pub conf_reason_text : ConfReason → List ℕ
conf_reason_text Unknown = codes "unknown"
conf_reason_text LeftOut = codes "left out"
conf_reason_text Repeated = codes "repeated"
conf_reason_text NoValue = codes "no value"
conf_reason_text BadValue = codes "bad value"
conf_reason_text Misplaced = codes "misplaced"
conf_reason_text NameTooLong = codes "name too long"
conf_reason_text RepeatedName = codes "repeated name"
conf_reason_text TooManyNames = codes "too many names"
conf_reason_text (Excludes other) = codes "excludes " ++ opt_name other
conf_reason_text NoDefault = codes "no default"
conf_reason_text NoImages = codes "no images"
conf_reason_text (Needs other) = codes "needs " ++ opt_name other
conf_reason_text (Text (tokens.OpenQuote place)) = codes "open quote"
conf_reason_text (Text (tokens.BadByte place)) = codes "bad byte"
conf_reason_text (TooLong size) = codes "too long"

-- what reports a refusal, after the word that it is one of the configuration
unfoldable pub config_line : ConfRefusal → List ℕ
config_line refusal =
    opt_name refusal.option ++ codes ": " ++ conf_reason_text refusal.reason ++ codes " at line " ++ decimal refusal.line
