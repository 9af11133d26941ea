-- The pieces of a lilo.conf as settings: an option with what comes after it. That an option has an equals sign
-- and a value, or is alone, is lilo.conf(5)'s; what is refused on the way is this project's own.
use Rattle.std.specs.Prelude.{ℕ, zero, suc, Bool, true, false, List, [], ◌∷◌, length, Option, None, Some, Result, Ok, Err}
use Rattle.lilo_model.specs.ConfTokens.{TokenKind, Word, Quoted, Equals, Token, TextFault, OpenQuote, BadByte, Piece, line_at, plain_bytes, text_pieces}
use Rattle.lilo_model.specs.ConfOptions as options
use Rattle.lilo_model.specs.ConfOptions.{Opt, Other, Takes, option_at, takes_of}
use Rattle.lilo_model.specs.ConfRefusal as reasons
use Rattle.lilo_model.specs.ConfRefusal.{ConfReason, ConfRefusal}

-- what comes after an option
pub data Given : Type 0 where
  -- no equals sign
  Bare : Given
  -- an equals sign, and no value that belongs to it
  Sign : Given
  -- an equals sign and a value
  Value : List ℕ → Given

-- an option, what comes after it, and its line
pub record Setting : Type 0 where
  pub option : Opt
  pub given : Given
  pub line : ℕ

-- what comes first in pieces
pub data SettingCut : Type 0 where
  -- nothing
  End : SettingCut
  -- a refusal
  Refused : ConfRefusal → SettingCut
  -- a setting, and the pieces after it
  First : Setting → List Piece → SettingCut

-- the place of a fault
unfoldable pub fault_place : TextFault → ℕ
fault_place (OpenQuote place) = place
fault_place (BadByte place) = place

-- the refusal of a text that can't be cut, by the option that was begun last
unfoldable pub text_refusal : List ℕ → Opt → TextFault → ConfRefusal
text_refusal text option fault = record {
  reason = reasons.Text fault;
  option = option;
  line = line_at text (fault_place fault);
}

-- what comes after an option that takes no value, by the kind of the next token
unfoldable pub flag_given : TokenKind → Given
flag_given Word = Bare
flag_given Quoted = Bare
flag_given Equals = Sign

-- an option that takes no value, with what comes after its word: an equals sign there is none of its own
unfoldable pub flag_cut : Opt → ℕ → List Piece → SettingCut
flag_cut option line [] = First (record { option = option; given = Bare; line = line }) []
flag_cut option line (Err fault ∷ pieces) =
    First (record { option = option; given = Bare; line = line }) (Err fault ∷ pieces)
flag_cut option line (Ok token ∷ pieces) =
    First (record { option = option; given = flag_given token.kind; line = line }) (Ok token ∷ pieces)

-- what a token gives after an equals sign
unfoldable pub given_of : Token → Given
given_of token = by token.kind
  where
    by : TokenKind → Given
    by Word = Value (plain_bytes Word token.bytes)
    by Quoted = Value (plain_bytes Quoted token.bytes)
    by Equals = Sign

-- what comes after an option's equals sign
unfoldable pub signed_cut : List ℕ → Opt → ℕ → List Piece → SettingCut
signed_cut text option line [] = First (record { option = option; given = Sign; line = line }) []
signed_cut text option line (Err fault ∷ pieces) = Refused (text_refusal text option fault)
signed_cut text option line (Ok token ∷ pieces) = First (record { option = option; given = given_of token; line = line }) pieces

-- an option that takes a value, with what comes after its word
unfoldable pub valued_cut : List ℕ → Opt → ℕ → List Piece → SettingCut
valued_cut text option line [] = First (record { option = option; given = Bare; line = line }) []
valued_cut text option line (Err fault ∷ pieces) = Refused (text_refusal text option fault)
valued_cut text option line (Ok token ∷ pieces) = behind token.kind
  where
    behind : TokenKind → SettingCut
    behind Word = First (record { option = option; given = Bare; line = line }) pieces
    behind Quoted = First (record { option = option; given = Bare; line = line }) pieces
    behind Equals = signed_cut text option line pieces

-- an option by what it takes, with what comes after its word
unfoldable pub taken_cut : List ℕ → Opt → Takes → ℕ → List Piece → SettingCut
taken_cut text chosen options.Unknown line pieces =
    Refused (record { reason = reasons.Unknown; option = Other; line = line })
taken_cut text chosen options.LeftOut line pieces =
    Refused (record { reason = reasons.LeftOut; option = chosen; line = line })
taken_cut text chosen options.Nothing line pieces = flag_cut chosen line pieces
taken_cut text chosen _ line pieces = valued_cut text chosen line pieces

-- the option of a word, by what comes after it
unfoldable pub word_cut : List ℕ → Opt → ℕ → List Piece → SettingCut
word_cut text option line pieces = taken_cut text option (takes_of option) line pieces

-- the setting of a token, by what comes after it; only a word is an option
unfoldable pub token_cut : List ℕ → Token → List Piece → SettingCut
token_cut text token pieces = by token.kind
  where
    by : TokenKind → SettingCut
    by Word = word_cut text (option_at token.bytes) token.line pieces
    by Quoted = Refused (record { reason = reasons.Unknown; option = Other; line = token.line })
    by Equals = Refused (record { reason = reasons.Unknown; option = Other; line = token.line })

-- the first setting of pieces, after an option
unfoldable pub setting_cut : List ℕ → Opt → List Piece → SettingCut
setting_cut text begun [] = End
setting_cut text begun (Err fault ∷ pieces) = Refused (text_refusal text begun fault)
setting_cut text begun (Ok token ∷ pieces) = token_cut text token pieces

-- settings, and the refusal that comes after them, where there is one
pub record Settings : Type 0 where
  pub settings : List Setting
  pub refusal : Option ConfRefusal

-- settings with one more at their start
unfoldable pub with_setting : Setting → Settings → Settings
with_setting setting cut = record { settings = setting ∷ cut.settings; refusal = cut.refusal }

-- at most so many settings of pieces, after an option
unfoldable pub settings_from : ℕ → List ℕ → Opt → List Piece → Settings
settings_from zero text begun pieces = record { settings = []; refusal = None }
settings_from (suc most) text begun pieces =
    elim (setting_cut text begun pieces) [
      | End ↦ record { settings = []; refusal = None }
      | Refused refusal ↦ record { settings = []; refusal = Some refusal }
      | First setting behind ↦ with_setting setting (settings_from most text setting.option behind)
    ]

-- the settings of a text; there are no more than pieces
unfoldable pub text_settings : List ℕ → Settings
text_settings text = let pieces = text_pieces text in settings_from (suc (length pieces)) text Other pieces
