-- The text of lilo.conf as tokens: words, quoted texts and equals signs. That a line has an option, an equals
-- sign and a value, that a number sign begins a comment and that quotes hold blanks is lilo.conf(5)'s; the exact
-- rules here are this project's own. A place counts bytes from 0, a line from 1.
use Rattle.std.specs.Prelude.{ℕ, zero, suc, ◌+◌, Bool, true, false, not, ◌&&◌, ◌||◌, ◌==◌, nat_lt, if◌then◌else◌, List, [], ◌∷◌, ◌++◌, take, drop, length}
use Rattle.std.specs.Prelude.{position, count_by, Option, None, Some, Result, Ok, Err}
use Rattle.std.specs.List.{take_while}

pub data TokenKind : Type 0 where
  Word : TokenKind
  Quoted : TokenKind
  Equals : TokenKind

pub record Token : Type 0 where
  pub kind : TokenKind
  -- its bytes in the text, those of a quoted one without its quotes
  pub bytes : List ℕ
  -- the place of the first of them
  pub start : ℕ
  pub line : ℕ

-- why a text can't be cut further
pub data TextFault : Type 0 where
  -- the opening quote at this place has no closing one on its line
  OpenQuote : (place : ℕ) → TextFault
  -- a byte at this place isn't allowed outside comments
  BadByte : (place : ℕ) → TextFault

-- what is at the start of a text: a token, or a fault, which ends it
abbrev pub Piece : Type 0
Piece = Result Token TextFault

-- whether a byte separates tokens: a space, a tab, a carriage return or a newline
unfoldable pub is_separator : ℕ → Bool
is_separator byte = byte == 32 || byte == 9 || byte == 13 || byte == 10

-- whether a byte isn't allowed outside comments: a control byte that separates nothing
unfoldable pub is_bad_byte : ℕ → Bool
is_bad_byte byte = (nat_lt byte 32 && not (is_separator byte)) || byte == 127

-- the line of a place
unfoldable pub line_at : List ℕ → ℕ → ℕ
line_at text place = suc (count_by (λ byte. byte == 10) (take place text))

-- whether a byte is in a comment or begins one, where the byte before it did or didn't
unfoldable pub in_comment : Bool → ℕ → Bool
in_comment before byte = (before || byte == 35) && not (byte == 10)

-- whether a byte belongs to no token
unfoldable pub is_blank : Bool → ℕ → Bool
is_blank before byte = before || byte == 35 || is_separator byte

-- how many bytes come before the first token, the first of them in a comment or not
unfoldable pub blank_length : Bool → List ℕ → ℕ
blank_length comment [] = 0
blank_length comment (byte ∷ bytes) =
    if is_blank comment byte then suc (blank_length (in_comment comment byte) bytes) else 0

-- whether a byte belongs to a word, which after an equals sign may have such signs itself
unfoldable pub is_of_word : Bool → ℕ → Bool
is_of_word value byte = not (is_separator byte) && (value || not (byte == 61))

-- whether a byte is a backslash that escapes the next, itself escaped or not
unfoldable pub is_escape : Bool → ℕ → Bool
is_escape escaped byte = byte == 92 && not escaped

-- whether a byte ends a quoted text: a quote that isn't escaped, or a newline
unfoldable pub ends_quoted : Bool → ℕ → Bool
ends_quoted escaped byte = (byte == 34 && not escaped) || byte == 10

-- how many bytes come before the end of a quoted text, the first of them escaped or not
unfoldable pub quoted_length : Bool → List ℕ → ℕ
quoted_length escaped [] = 0
quoted_length escaped (byte ∷ bytes) =
    if ends_quoted escaped byte then 0 else suc (quoted_length (is_escape escaped byte) bytes)

-- a token on a line whose bytes begin at a place, unless the one of this index isn't allowed there
unfoldable pub unless_bad : ℕ → TokenKind → ℕ → List ℕ → Option ℕ → Piece
unless_bad line kind start bytes (Some index) = Err (BadByte (start + index))
unless_bad line kind start bytes None = Ok (record { kind = kind; bytes = bytes; start = start; line = line })

-- a token on a line whose bytes begin at a place, unless one of them isn't allowed there
unfoldable pub sound_token : ℕ → TokenKind → ℕ → List ℕ → Piece
sound_token line kind start bytes = unless_bad line kind start bytes (position is_bad_byte bytes)

-- the word whose first byte is at a place, with the bytes after it
unfoldable pub word_at : ℕ → Bool → ℕ → ℕ → List ℕ → Piece
word_at line value start byte bytes = sound_token line Word start (byte ∷ take_while (is_of_word value) bytes)

-- a quoted text whose opening quote is at a place, with what comes after it
unfoldable pub closed : ℕ → Piece → List ℕ → Piece
closed start (Err fault) behind = Err fault
closed start (Ok token) [] = Err (OpenQuote start)
closed start (Ok token) (byte ∷ _) = if byte == 34 then Ok token else Err (OpenQuote start)

-- the quoted text whose opening quote is at a place, with the bytes after the quote
unfoldable pub quoted_at : ℕ → ℕ → List ℕ → Piece
quoted_at line start bytes =
    let len = quoted_length false bytes in
    closed start (sound_token line Quoted (suc start) (take len bytes)) (drop len bytes)

-- the equals sign at a place
unfoldable pub equals_at : ℕ → ℕ → Piece
equals_at line start = Ok (record { kind = Equals; bytes = 61 ∷ []; start = start; line = line })

-- what is on a line at a place where a token begins, with the bytes from there on; none at the end
unfoldable pub piece_at : ℕ → Bool → ℕ → List ℕ → Option Piece
piece_at line value start [] = None
piece_at line value start (byte ∷ bytes) =
    Some (
    if byte == 61 then equals_at line start else
    if byte == 34 then quoted_at line start bytes else
    word_at line value start byte bytes)

-- where the first token from a place on begins
unfoldable pub token_start : List ℕ → ℕ → ℕ
token_start text place = place + blank_length false (drop place text)

-- what comes first from a place on, after an equals sign or not
unfoldable pub next_piece : List ℕ → Bool → ℕ → Option Piece
next_piece text value place =
    let start = token_start text place in piece_at (line_at text start) value start (drop start text)

-- how many bytes of a token come after its own
abbrev pub quote_length : TokenKind → ℕ
quote_length Word = 0
quote_length Quoted = 1
quote_length Equals = 0

-- the place after a token
abbrev pub token_end : Token → ℕ
token_end token = token.start + length token.bytes + quote_length token.kind

-- whether a token is an equals sign
unfoldable pub is_equals : TokenKind → Bool
is_equals Word = false
is_equals Quoted = false
is_equals Equals = true

-- the pieces from a place on, at most so many
unfoldable pub pieces_from : ℕ → List ℕ → Bool → ℕ → List Piece
pieces_from zero text value place = []
pieces_from (suc most) text value place =
    elim (next_piece text value place) [
      | None ↦ []
      | Some piece ↦ elim piece [
        | Err fault ↦ Err fault ∷ []
        | Ok token ↦ Ok token ∷ pieces_from most text (is_equals token.kind) (token_end token)
      ]
    ]

-- the whole text in tokens, the last piece a fault where it has one; there are no more than bytes
unfoldable pub text_pieces : List ℕ → List Piece
text_pieces text = pieces_from (suc (length text)) text false 0

-- what a byte of a quoted text adds to its meaning, itself escaped or not
unfoldable pub unescaped_byte : Bool → ℕ → List ℕ
unescaped_byte escaped byte =
    if is_escape escaped byte then [] else
    if escaped && not (byte == 34 || byte == 92) then 92 ∷ (byte ∷ []) else
    byte ∷ []

-- the bytes of a quoted text without its escapes, the first of them escaped or not; a backslash before any
-- other byte than a quote or a backslash stands for itself
unfoldable pub unescaped : Bool → List ℕ → List ℕ
unescaped escaped [] = if escaped then 92 ∷ [] else []
unescaped escaped (byte ∷ bytes) = unescaped_byte escaped byte ++ unescaped (is_escape escaped byte) bytes

-- what a token means
unfoldable pub plain_bytes : TokenKind → List ℕ → List ℕ
plain_bytes Word bytes = bytes
plain_bytes Quoted bytes = unescaped false bytes
plain_bytes Equals bytes = bytes
