-- No value has more bytes than the text that it is in.
use Rattle.std.proofs.Common.{◌≡◌, ℕ, zero, suc, ◌+◌, ◌≤◌, Bool, true, false, not, ◌||◌, ◌&&◌, List, [], ◌∷◌, length, take, drop, Some, None, Ok, Err, Option, arith}
use Rattle.std.specs.Prelude.{⊤, IfSome, if◌then◌else◌, ◌==◌, position}
use Rattle.std.specs.List.{AllByRecursion, take_while, prefix_len}
use Rattle.std.proofs.lemmas.List.{length-take, length-drop, length-append}
use Rattle.lilo_model.specs.ConfOptions as options
use Rattle.lilo_model.specs.ConfOptions.{Opt, Takes, takes_of, option_at}
use Rattle.lilo_model.specs.ConfTokens.{TokenKind, Word, Quoted, Equals, Token, OpenQuote, Piece, is_of_word, is_escape, quoted_length, unless_bad, sound_token, closed, word_at, quoted_at, equals_at, token_start, line_at, piece_at, next_piece, is_equals, token_end, pieces_from, text_pieces, unescaped_byte, unescaped, plain_bytes, is_bad_byte}
use Rattle.lilo_model.specs.ConfSettings.{Bare, Sign, Setting, SettingCut, End, Refused, First, flag_given, flag_cut, given_of, signed_cut, valued_cut, taken_cut, word_cut, token_cut, setting_cut, with_setting, Settings, settings_from, text_settings}
use Rattle.lilo_model.specs.ConfJudge.{given_text}

-- ---- tokens

-- a token of at most so many bytes, or a fault
abbrev pub IsWithin : ℕ → Piece → Type 0
IsWithin size (Err fault) = ⊤
IsWithin size (Ok token) = length token.bytes ≤ size

unless_bad-within : (size line : ℕ) (kind : TokenKind) (start : ℕ) (bytes : List ℕ) (bad : Option ℕ) → length bytes ≤ size
    → IsWithin size (unless_bad line kind start bytes bad)
unfolding unless_bad
unless_bad-within size line kind start bytes (Some index) small = tt
unless_bad-within size line kind start bytes None small = small

sound_token-within : (size line : ℕ) (kind : TokenKind) (start : ℕ) (bytes : List ℕ) → length bytes ≤ size
    → IsWithin size (sound_token line kind start bytes)
unfolding sound_token
sound_token-within size line kind start bytes small = unless_bad-within size line kind start bytes (position is_bad_byte bytes) small

closed-within : (size start : ℕ) (piece : Piece) (behind : List ℕ) → IsWithin size piece → IsWithin size (closed start piece behind)
unfolding closed
closed-within size start (Err fault) behind small = tt
closed-within size start (Ok token) [] small = tt
closed-within size start (Ok token) (byte ∷ bytes) small = by (byte == 34)
  where
    by : (quote : Bool) → IsWithin size (if quote then Ok token else Err (OpenQuote start))
    by true = small
    by false = tt

take-small : (n : ℕ) (bytes : List ℕ) → length (take n bytes) ≤ length bytes
take-small n bytes = rw length-take (omega arith)

drop-small : (n : ℕ) (bytes : List ℕ) → length (drop n bytes) ≤ length bytes
drop-small n bytes = rw length-drop (omega arith)

piece_at-within : (line : ℕ) (value : Bool) (start : ℕ) (bytes : List ℕ) → IfSome (piece_at line value start bytes) (IsWithin (length bytes))
unfolding piece_at word_at quoted_at equals_at
piece_at-within line value start [] = tt
piece_at-within line value start (byte ∷ bytes) = by (byte == 61) (byte == 34)
  where
    by : (sign quote : Bool) → IsWithin (suc (length bytes)) (if sign then equals_at line start else if quote then quoted_at line start bytes else word_at line value start byte bytes)
    by true quote = omega arith
    by false true =
        let few = take-small (quoted_length false bytes) bytes in
        closed-within (suc (length bytes)) start (sound_token line Quoted (suc start) (take (quoted_length false bytes) bytes)) (drop (quoted_length false bytes) bytes)
        (sound_token-within (suc (length bytes)) line Quoted (suc start) (take (quoted_length false bytes) bytes) (omega (arith, few)))
    by false false =
        let few = take-small (prefix_len (is_of_word value) bytes) bytes in
        sound_token-within (suc (length bytes)) line Word start (byte ∷ take_while (is_of_word value) bytes) (omega (arith, few))

within-more : (low high : ℕ) (piece : Piece) → low ≤ high → IsWithin low piece → IsWithin high piece
within-more low high (Err fault) more small = tt
within-more low high (Ok token) more small = omega (arith, more, small)

next_piece-within : (text : List ℕ) (value : Bool) (place : ℕ) → IfSome (next_piece text value place) (IsWithin (length text))
unfolding next_piece
next_piece-within text value place =
    let start : ℕ = token_start text place in
    by (piece_at (line_at text start) value start (drop start text)) (piece_at-within (line_at text start) value start (drop start text))
  where
    by : (found : Option Piece) → IfSome found (IsWithin (length (drop (token_start text place) text))) → IfSome found (IsWithin (length text))
    by None small = tt
    by (Some piece) small = within-more _ (length text) piece (drop-small (token_start text place) text) small

pieces_from-within : (most : ℕ) (text : List ℕ) (value : Bool) (place : ℕ) → AllByRecursion (IsWithin (length text)) (pieces_from most text value place)
unfolding pieces_from
pieces_from-within zero text value place = tt
pieces_from-within (suc most) text value place =
    by (next_piece text value place) (next_piece-within text value place) (λ token. pieces_from-within most text (is_equals token.kind) (token_end token))
  where
    by : (found : Option Piece) → IfSome found (IsWithin (length text))
        → ((token : Token) → AllByRecursion (IsWithin (length text)) (pieces_from most text (is_equals token.kind) (token_end token)))
        → AllByRecursion (IsWithin (length text)) (elim found [
          | None ↦ []
          | Some piece ↦ elim piece [
            | Err fault ↦ Err fault ∷ []
            | Ok token ↦ Ok token ∷ pieces_from most text (is_equals token.kind) (token_end token)
          ]
        ])
    by None small rest = tt
    by (Some (Err fault)) small rest = (tt, tt)
    by (Some (Ok token)) small rest = (small, rest token)

-- ---- what tokens mean

-- a byte that is kept back to see what it escapes
abbrev kept : Bool → ℕ
kept true = 1
kept false = 0

unescaped_byte-small : (escaped : Bool) (byte : ℕ) → length (unescaped_byte escaped byte) + kept (is_escape escaped byte) ≤ suc (kept escaped)
unfolding unescaped_byte is_escape
unescaped_byte-small true byte = first (byte == 92)
  where
    second : (plain : Bool) → length (if plain then 92 ∷ (byte ∷ []) else byte ∷ []) + 0 ≤ 2
    second true = omega arith
    second false = omega arith

    first : (slash : Bool) → length (if slash && false then [] else if true && not (byte == 34 || slash) then 92 ∷ (byte ∷ []) else byte ∷ []) + kept (slash && false) ≤ 2
    first true = second (not (byte == 34 || true))
    first false = second (not (byte == 34 || false))
unescaped_byte-small false byte = first (byte == 92)
  where
    first : (slash : Bool) → length (if slash && true then [] else if false && not (byte == 34 || slash) then 92 ∷ (byte ∷ []) else byte ∷ []) + kept (slash && true) ≤ 1
    first true = omega arith
    first false = omega arith

unescaped-small : (escaped : Bool) (bytes : List ℕ) → length (unescaped escaped bytes) ≤ length bytes + kept escaped
unfolding unescaped
unescaped-small true [] = omega arith
unescaped-small false [] = omega arith
unescaped-small escaped (byte ∷ bytes) =
    let one = unescaped_byte-small escaped byte in
    let rest = unescaped-small (is_escape escaped byte) bytes in
    rw length-append (omega (arith, one, rest))

plain_bytes-small : (kind : TokenKind) (bytes : List ℕ) → length (plain_bytes kind bytes) ≤ length bytes
unfolding plain_bytes
plain_bytes-small Word bytes = omega arith
plain_bytes-small Quoted bytes = let few = unescaped-small false bytes in omega (arith, few)
plain_bytes-small Equals bytes = omega arith

-- ---- settings

-- the value of a setting has at most so many bytes
abbrev pub IsSmall : ℕ → Setting → Type 0
IsSmall size setting = (text : List ℕ) → given_text setting.given ≡ Some text → length text ≤ size

given_of-small : (size : ℕ) (token : Token) (text : List ℕ) → length token.bytes ≤ size → given_text (given_of token) ≡ Some text → length text ≤ size
unfolding given_of given_text
given_of-small size token text small is = by token.kind is
  where
    by : (kind : TokenKind) → given_text (given_of (record token { kind = kind })) ≡ Some text → length text ≤ size
    by Word e = let same : plain_bytes Word token.bytes ≡ text = cc in rw (← same) (omega (arith, plain_bytes-small Word token.bytes, small))
    by Quoted e = let same : plain_bytes Quoted token.bytes ≡ text = cc in rw (← same) (omega (arith, plain_bytes-small Quoted token.bytes, small))
    by Equals e = absurd (cc)

-- what is cut first has a small value, and small tokens come after it
abbrev CutWithin : ℕ → SettingCut → Type 0
CutWithin size End = ⊤
CutWithin size (Refused refusal) = ⊤
CutWithin size (First setting behind) = IsSmall size setting × AllByRecursion (IsWithin size) behind

bare-small : (size : ℕ) (text : List ℕ) → given_text Bare ≡ Some text → length text ≤ size
unfolding given_text
bare-small size text is = absurd (cc)

sign-small : (size : ℕ) (text : List ℕ) → given_text Sign ≡ Some text → length text ≤ size
unfolding given_text
sign-small size text is = absurd (cc)

flag_given-small : (size : ℕ) (kind : TokenKind) (text : List ℕ) → given_text (flag_given kind) ≡ Some text → length text ≤ size
unfolding flag_given
flag_given-small size Word = bare-small size
flag_given-small size Quoted = bare-small size
flag_given-small size Equals = sign-small size

flag_cut-within : (size : ℕ) (one : Opt) (line : ℕ) (pieces : List Piece) → AllByRecursion (IsWithin size) pieces → CutWithin size (flag_cut one line pieces)
unfolding flag_cut
flag_cut-within size one line [] small = (bare-small size, tt)
flag_cut-within size one line (Err fault ∷ pieces) small = (bare-small size, small)
flag_cut-within size one line (Ok token ∷ pieces) small = (flag_given-small size token.kind, small)

signed_cut-within : (size : ℕ) (text : List ℕ) (one : Opt) (line : ℕ) (pieces : List Piece) → AllByRecursion (IsWithin size) pieces → CutWithin size (signed_cut text one line pieces)
unfolding signed_cut
signed_cut-within size text one line [] small = (sign-small size, tt)
signed_cut-within size text one line (Err fault ∷ pieces) small = tt
signed_cut-within size text one line (Ok token ∷ pieces) small = (λ value. given_of-small size token value small.0, small.1)

valued_cut-within : (size : ℕ) (text : List ℕ) (one : Opt) (line : ℕ) (pieces : List Piece) → AllByRecursion (IsWithin size) pieces → CutWithin size (valued_cut text one line pieces)
unfolding valued_cut
valued_cut-within size text one line [] small = (bare-small size, tt)
valued_cut-within size text one line (Err fault ∷ pieces) small = tt
valued_cut-within size text one line (Ok token ∷ pieces) small = by token.kind
  where
    by : (kind : TokenKind) → CutWithin size (valued_cut text one line (Ok (record token { kind = kind }) ∷ pieces))
    by Word = (bare-small size, small.1)
    by Quoted = (bare-small size, small.1)
    by Equals = signed_cut-within size text one line pieces small.1

taken_cut-within : (size : ℕ) (text : List ℕ) (one : Opt) (takes : Takes) (line : ℕ) (pieces : List Piece) → AllByRecursion (IsWithin size) pieces → CutWithin size (taken_cut text one takes line pieces)
unfolding taken_cut
taken_cut-within size text one options.Unknown line pieces small = tt
taken_cut-within size text one options.LeftOut line pieces small = tt
taken_cut-within size text one options.Nothing line pieces small = flag_cut-within size one line pieces small
taken_cut-within size text one _ line pieces small = valued_cut-within size text one line pieces small

setting_cut-within : (size : ℕ) (text : List ℕ) (begun : Opt) (pieces : List Piece) → AllByRecursion (IsWithin size) pieces → CutWithin size (setting_cut text begun pieces)
unfolding setting_cut token_cut word_cut
setting_cut-within size text begun [] small = tt
setting_cut-within size text begun (Err fault ∷ pieces) small = tt
setting_cut-within size text begun (Ok token ∷ pieces) small = by token.kind
  where
    by : (kind : TokenKind) → CutWithin size (token_cut text (record token { kind = kind }) pieces)
    by Word = taken_cut-within size text (option_at token.bytes) (takes_of (option_at token.bytes)) token.line pieces small.1
    by Quoted = tt
    by Equals = tt

settings_from-small : (size most : ℕ) (text : List ℕ) (begun : Opt) (pieces : List Piece) → AllByRecursion (IsWithin size) pieces
    → AllByRecursion (IsSmall size) (settings_from most text begun pieces).settings
unfolding settings_from with_setting
settings_from-small size zero text begun pieces small = tt
settings_from-small size (suc most) text begun pieces small =
    by (setting_cut text begun pieces) (setting_cut-within size text begun pieces small) (λ setting behind. settings_from-small size most text setting.option behind)
  where
    by : (cut : SettingCut) → CutWithin size cut
        → ((setting : Setting) (behind : List Piece) → AllByRecursion (IsWithin size) behind → AllByRecursion (IsSmall size) (settings_from most text setting.option behind).settings)
        → AllByRecursion (IsSmall size) (elim cut as (λ c. Settings) [
          | End ↦ record { settings = []; refusal = None }
          | Refused refusal ↦ record { settings = []; refusal = Some refusal }
          | First setting behind ↦ with_setting setting (settings_from most text setting.option behind)
        ]).settings
    by End within rest = tt
    by (Refused refusal) within rest = tt
    by (First setting behind) within rest = (within.0, rest setting behind within.1)

pub text_settings-small : (text : List ℕ) → AllByRecursion (IsSmall (length text)) (text_settings text).settings
unfolding text_settings text_pieces
text_settings-small text =
    let pieces = text_pieces text in
    settings_from-small (length text) (suc (length pieces)) text options.Other pieces (pieces_from-within (suc (length text)) text false 0)
