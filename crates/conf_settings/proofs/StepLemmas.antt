-- Steps of the reader, and settings by their first step.
use Rattle.std.proofs.Common.{◌≡◌, ℕ, zero, suc, ◌<◌, ◌≤◌, true, false, List, [], ◌∷◌, ◌++◌, length, refl, sym, ◌∙◌, ap, append_assoc, append-nil, arith}
use Rattle.std.specs.Prelude.{Option, None, Some, Ok, Err}
use Rattle.std.specs.Option.{option_map}
use Rattle.lilo_model.specs.ConfTokens.{TokenKind, Word, Quoted, Equals, Token, Piece, is_equals, text_pieces}
use Rattle.lilo_model.specs.ConfOptions as options
use Rattle.lilo_model.specs.ConfOptions.{Opt, Takes, option_at, takes_of}
use Rattle.lilo_model.specs.ConfRefusal.{ConfRefusal}
use Rattle.lilo_model.specs.ConfSettings.{Bare, Sign, Setting, SettingCut, End, Refused, First, flag_cut, flag_given, signed_cut, valued_cut, taken_cut, word_cut, token_cut, setting_cut, with_setting, settings_from, text_settings}
use Rattle.conf_text.specs.View.{begins_with_equals}
use Rattle.conf_settings.specs.View.{fault_view, setting_view, settings_view}
use Rattle.conf_settings.specs.Step.{step_view, settings_behind, joined}
use Rattle.conf_settings.specs.declared.reason.ConfFault.{ConfFault}
use Rattle.conf_settings.specs.declared.setting.Setting as its
use Rattle.conf_settings.specs.declared.reader.Step.{Step}
use Rattle.conf_settings.specs.declared.reader.Step.TheVariants as steps

-- an option that takes no value, by what comes after its word
pub flag_sign : (option : Opt) (line : ℕ) (pieces : List Piece) → begins_with_equals pieces ≡ true
    → flag_cut option line pieces ≡ First (record { option = option; given = Sign; line = line }) pieces
unfolding flag_cut is_equals flag_given
flag_sign chosen line [] sign = absurd (cc)
flag_sign chosen line (Err fault ∷ pieces) sign = absurd (cc)
flag_sign chosen line (Ok token ∷ pieces) sign = by token.kind sign
  where
    by : (kind : TokenKind) → is_equals kind ≡ true
        → ◌≡◌ {A = SettingCut} (First (record { option = chosen; given = flag_given kind; line = line }) (Ok token ∷ pieces)) (First (record { option = chosen; given = Sign; line = line }) (Ok token ∷ pieces))
    by Word is = absurd (cc)
    by Quoted is = absurd (cc)
    by Equals is = refl

pub flag_bare : (option : Opt) (line : ℕ) (pieces : List Piece) → begins_with_equals pieces ≡ false
    → flag_cut option line pieces ≡ First (record { option = option; given = Bare; line = line }) pieces
unfolding flag_cut is_equals flag_given
flag_bare chosen line [] none = refl
flag_bare chosen line (Err fault ∷ pieces) none = refl
flag_bare chosen line (Ok token ∷ pieces) none = by token.kind none
  where
    by : (kind : TokenKind) → is_equals kind ≡ false
        → ◌≡◌ {A = SettingCut} (First (record { option = chosen; given = flag_given kind; line = line }) (Ok token ∷ pieces)) (First (record { option = chosen; given = Bare; line = line }) (Ok token ∷ pieces))
    by Word is = refl
    by Quoted is = refl
    by Equals is = absurd (cc)

-- at most so many pieces are left after a setting
abbrev IsShort : ℕ → SettingCut → Type 0
IsShort most End = Unit {0}
IsShort most (Refused refusal) = Unit {0}
IsShort most (First setting behind) = length behind ≤ most

more_short : (most more : ℕ) (cut : SettingCut) → most ≤ more → IsShort most cut → IsShort more cut
more_short most more End le short = tt
more_short most more (Refused refusal) le short = tt
more_short most more (First setting behind) le short = omega arith

flag_short : (chosen : Opt) (line : ℕ) (pieces : List Piece) → IsShort (length pieces) (flag_cut chosen line pieces)
unfolding flag_cut
flag_short chosen line [] = omega arith
flag_short chosen line (Err fault ∷ pieces) = omega arith
flag_short chosen line (Ok token ∷ pieces) = omega arith

signed_short : (text : List ℕ) (chosen : Opt) (line : ℕ) (pieces : List Piece) → IsShort (length pieces) (signed_cut text chosen line pieces)
unfolding signed_cut
signed_short text chosen line [] = omega arith
signed_short text chosen line (Err fault ∷ pieces) = tt
signed_short text chosen line (Ok token ∷ pieces) = omega arith

valued_short : (text : List ℕ) (chosen : Opt) (line : ℕ) (pieces : List Piece) → IsShort (length pieces) (valued_cut text chosen line pieces)
unfolding valued_cut
valued_short text chosen line [] = omega arith
valued_short text chosen line (Err fault ∷ pieces) = tt
valued_short text chosen line (Ok token ∷ pieces) = by token.kind
  where
    by : (kind : TokenKind) → IsShort (length (Ok token ∷ pieces)) (valued_cut text chosen line (Ok (record token { kind = kind }) ∷ pieces))
    by Word = omega arith
    by Quoted = omega arith
    by Equals = more_short (length pieces) (suc (length pieces)) (signed_cut text chosen line pieces) (omega arith) (signed_short text chosen line pieces)

taken_short : (text : List ℕ) (chosen : Opt) (takes : Takes) (line : ℕ) (pieces : List Piece) → IsShort (length pieces) (taken_cut text chosen takes line pieces)
unfolding taken_cut
taken_short text chosen options.Unknown line pieces = tt
taken_short text chosen options.LeftOut line pieces = tt
taken_short text chosen options.Nothing line pieces = flag_short chosen line pieces
taken_short text chosen _ line pieces = valued_short text chosen line pieces

token_short : (text : List ℕ) (token : Token) (pieces : List Piece) → IsShort (length pieces) (token_cut text token pieces)
unfolding token_cut word_cut
token_short text token pieces = by token.kind
  where
    by : (kind : TokenKind) → IsShort (length pieces) (token_cut text (record token { kind = kind }) pieces)
    by Word = taken_short text (option_at token.bytes) (takes_of (option_at token.bytes)) token.line pieces
    by Quoted = tt
    by Equals = tt

-- a setting takes at least one piece
pub setting_cut-shorter : (text : List ℕ) (begun : Opt) (pieces : List Piece) (setting : Setting) (behind : List Piece)
    → setting_cut text begun pieces ≡ First setting behind → length behind < length pieces
unfolding setting_cut
setting_cut-shorter text begun [] setting behind is = absurd (cc)
setting_cut-shorter text begun (Err fault ∷ pieces) setting behind is = absurd (cc)
setting_cut-shorter text begun (Ok token ∷ pieces) setting behind is =
    let short : length behind ≤ length pieces = rw is at (token_short text token pieces) in
    omega arith

-- settings by the first step
pub settings_from-end : (most : ℕ) (text : List ℕ) (begun : Opt) (pieces : List Piece) → setting_cut text begun pieces ≡ End
    → settings_from (suc most) text begun pieces ≡ record { settings = []; refusal = None }
unfolding settings_from
settings_from-end most text begun pieces is = rw (is, settings_from) refl

pub settings_from-refused : (most : ℕ) (text : List ℕ) (begun : Opt) (pieces : List Piece) (refusal : ConfRefusal)
    → setting_cut text begun pieces ≡ Refused refusal
    → settings_from (suc most) text begun pieces ≡ record { settings = []; refusal = Some refusal }
unfolding settings_from
settings_from-refused most text begun pieces refusal is = rw (is, settings_from) refl

pub settings_from-first : (most : ℕ) (text : List ℕ) (begun : Opt) (pieces : List Piece) (setting : Setting) (behind : List Piece)
    → setting_cut text begun pieces ≡ First setting behind
    → settings_from (suc most) text begun pieces ≡ with_setting setting (settings_from most text setting.option behind)
unfolding settings_from
settings_from-first most text begun pieces setting behind is = rw (is, settings_from) refl

-- room for more settings than there are pieces makes no difference
settings_from-room : (one other : ℕ) (text : List ℕ) (begun : Opt) (pieces : List Piece) → length pieces < one → length pieces < other
    → settings_from one text begun pieces ≡ settings_from other text begun pieces
settings_from-room zero other text begun pieces room more = absurd (omega arith)
settings_from-room (suc one) zero text begun pieces room more = absurd (omega arith)
settings_from-room (suc one) (suc other) text begun pieces room more =
    by (setting_cut text begun pieces) refl
    (λ setting behind shorter. settings_from-room one other text setting.option behind (omega (arith, shorter)) (omega (arith, shorter)))
  where
    by : (cut : SettingCut) → setting_cut text begun pieces ≡ cut
        → ((setting : Setting) (behind : List Piece) → length behind < length pieces
        → settings_from one text setting.option behind ≡ settings_from other text setting.option behind)
        → settings_from (suc one) text begun pieces ≡ settings_from (suc other) text begun pieces
    by End is rest = settings_from-end one text begun pieces is ∙ sym (settings_from-end other text begun pieces is)
    by (Refused refusal) is rest =
        settings_from-refused one text begun pieces refusal is ∙ sym (settings_from-refused other text begun pieces refusal is)
    by (First setting behind) is rest =
        settings_from-first one text begun pieces setting behind is
        ∙ ap (with_setting setting) (rest setting behind (setting_cut-shorter text begun pieces setting behind is))
        ∙ sym (settings_from-first other text begun pieces setting behind is)

-- the settings of a text are those after nothing
pub text_settings-start : (text : List ℕ) → text_settings text ≡ joined [] (settings_behind text options.Other (text_pieces text))
unfolding text_settings
text_settings-start text = refl

-- they go on after the first
pub joined-first : (text : List ℕ) (front : List Setting) (begun : Opt) (pieces : List Piece) (setting : Setting) (behind : List Piece)
    → setting_cut text begun pieces ≡ First setting behind
    → joined front (settings_behind text begun pieces) ≡ joined (front ++ setting ∷ []) (settings_behind text setting.option behind)
unfolding with_setting
joined-first text front begun pieces setting behind is =
    let shorter = setting_cut-shorter text begun pieces setting behind is in
    let rest = settings_from-room (length pieces) (suc (length behind)) text setting.option behind (omega (arith, shorter)) (omega arith) in
    let first = settings_from-first (length pieces) text begun pieces setting behind is ∙ ap (with_setting setting) rest in
    rw (first, append_assoc) refl

-- and end where there is nothing, or with a refusal
pub joined-end : (text : List ℕ) (front : List Setting) (begun : Opt) (pieces : List Piece) → setting_cut text begun pieces ≡ End
    → joined front (settings_behind text begun pieces) ≡ record { settings = front; refusal = None }
joined-end text front begun pieces is = rw (settings_from-end (length pieces) text begun pieces is, append-nil) refl

pub joined-refused : (text : List ℕ) (front : List Setting) (begun : Opt) (pieces : List Piece) (refusal : ConfRefusal)
    → setting_cut text begun pieces ≡ Refused refusal
    → joined front (settings_behind text begun pieces) ≡ record { settings = front; refusal = Some refusal }
joined-refused text front begun pieces refusal is =
    rw (settings_from-refused (length pieces) text begun pieces refusal is, append-nil) refl

-- what a step of the reader is in the model
pub end_step : (step : Step) (left : List Piece) (cut : SettingCut) → step_view step left ≡ Some cut → step ≡ steps.End → cut ≡ End
end_step step left cut told is = let seen : Some End ≡ Some cut = rw is at told in cc

pub first_step : (step : Step) (left : List Piece) (cut : SettingCut) (setting : its.Setting) → step_view step left ≡ Some cut
    → step ≡ steps.First setting → cut ≡ First (setting_view setting) left
first_step step left cut setting told is =
    let seen : Some (First (setting_view setting) left) ≡ Some cut = rw is at told in cc

-- a refusal that ends the settings so far
pub refused_cut : (fault : ConfFault) (step : Step) (left : List Piece) (text : List ℕ) (front : List its.Setting) (begun : Opt) (pieces : List Piece)
    → text_settings text ≡ joined (settings_view front) (settings_behind text begun pieces)
    → step_view step left ≡ Some (setting_cut text begun pieces) → step ≡ steps.Refused fault
    → (settings_view front ≡ (text_settings text).settings) × (Some (fault_view fault) ≡ option_map Some (text_settings text).refusal)
refused_cut fault step left text front begun pieces all told is = by (fault_view fault) (rw is at told)
  where
    by : (refusal : Option ConfRefusal) → option_map Refused refusal ≡ Some (setting_cut text begun pieces)
        → (settings_view front ≡ (text_settings text).settings) × (Some refusal ≡ option_map Some (text_settings text).refusal)
    by None e = absurd (cc)
    by (Some refusal) e =
        let cut : setting_cut text begun pieces ≡ Refused refusal = cc in
        let whole = all ∙ joined-refused text (settings_view front) begun pieces refusal cut in
        rw whole (refl, refl)
