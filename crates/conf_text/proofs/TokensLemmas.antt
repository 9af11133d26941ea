-- Pieces one by one: the first, and those after it.
use Rattle.std.proofs.Common.{◌≡◌, ℕ, zero, suc, ◌+◌, ◌-◌, ◌<◌, ◌≤◌, List, [], ◌∷◌, Bool, true, false, refl, sym, ◌∙◌, ap, length, drop, take, arith}
use Rattle.std.specs.Prelude.{Option, None, Some, Ok, Err, count_by, position, cond, ◌==◌, if◌then◌else◌}
use Rattle.std.specs.List.{take_while}
use Rattle.std.proofs.lemmas.List.{take-take, length-take, length-drop, drop_all, drop-take}
use Rattle.std.proofs.Math.Seq.{take-length}
use Rattle.std.proofs.lemmas.List.Sums.{sum_by-take-drop, count_by-le-length}
use Rattle.conf_text.specs.View.{pieces_left}
use Rattle.lilo_model.specs.ConfTokens.{TokenKind, Word, Quoted, Equals, Token, TextFault, OpenQuote, is_bad_byte, blank_length, is_of_word, quoted_length, unless_bad, sound_token, closed, word_at, quoted_at, equals_at, Piece, line_at, token_start, piece_at, next_piece, token_end, is_equals, pieces_from}

-- where there is nothing, there are no pieces
pub pieces_from-none : (most : ℕ) (text : List ℕ) (value : Bool) (place : ℕ) → next_piece text value place ≡ None
    → pieces_from most text value place ≡ []
unfolding pieces_from
pieces_from-none zero text value place none = refl
pieces_from-none (suc most) text value place none = rw (none, pieces_from) refl

-- a fault is the last piece
pub pieces_from-fault : (most : ℕ) (text : List ℕ) (value : Bool) (place : ℕ) (fault : TextFault)
    → next_piece text value place ≡ Some (Err fault)
    → pieces_from (suc most) text value place ≡ Err fault ∷ []
unfolding pieces_from
pieces_from-fault most text value place fault is = rw (is, pieces_from) refl

-- after a token come the pieces from its end on
pub pieces_from-token : (most : ℕ) (text : List ℕ) (value : Bool) (place : ℕ) (token : Token)
    → next_piece text value place ≡ Some (Ok token)
    → pieces_from (suc most) text value place ≡ Ok token ∷ pieces_from most text (is_equals token.kind) (token_end token)
unfolding pieces_from
pieces_from-token most text value place token is = rw (is, pieces_from) refl

-- a token has its kind, place and bytes
pub record IsToken (its_kind : TokenKind) (its_start : ℕ) (its_bytes : List ℕ) (token : Token) : Type 0 where
  pub kind : token.kind ≡ its_kind
  pub start : token.start ≡ its_start
  pub bytes : token.bytes ≡ its_bytes

pub unless_bad-token : (line : ℕ) (kind : TokenKind) (start : ℕ) (bytes : List ℕ) (bad : Option ℕ) (token : Token)
    → unless_bad line kind start bytes bad ≡ Ok token → IsToken kind start bytes token
unfolding unless_bad
unless_bad-token line kind start bytes (Some index) token is = absurd (cc)
unless_bad-token line kind start bytes None token is =
    let made : Token = record { kind = kind; bytes = bytes; start = start; line = line } in
    let same : token ≡ made = cc in
    record { kind = ap (λ t. t.kind) same; start = ap (λ t. t.start) same; bytes = ap (λ t. t.bytes) same }

pub sound_token-token : (line : ℕ) (kind : TokenKind) (start : ℕ) (bytes : List ℕ) (token : Token)
    → sound_token line kind start bytes ≡ Ok token → IsToken kind start bytes token
unfolding sound_token
sound_token-token line kind start bytes token is =
    unless_bad-token line kind start bytes (position is_bad_byte bytes) token is

pub closed-token : (start : ℕ) (piece : Piece) (behind : List ℕ) (token : Token)
    → closed start piece behind ≡ Ok token → piece ≡ Ok token
unfolding closed
closed-token start (Err fault) behind token is = absurd (cc)
closed-token start (Ok found) [] token is = absurd (cc)
closed-token start (Ok found) (byte ∷ bytes) token is = last (byte == 34) is
  where
    last : (quote : Bool) → ◌≡◌ {A = Piece} (if quote then Ok found else Err (OpenQuote start)) (Ok token) → ◌≡◌ {A = Piece} (Ok found) (Ok token)
    last true e = e
    last false e = absurd (cc)

pub word_at-ends : (line : ℕ) (value : Bool) (start byte : ℕ) (bytes : List ℕ) (token : Token)
    → word_at line value start byte bytes ≡ Ok token → start < token_end token
unfolding word_at
word_at-ends line value start byte bytes token is =
    let found = sound_token-token line Word start (byte ∷ take_while (is_of_word value) bytes) token is in
    rw (found.start, found.bytes) (omega arith)

pub quoted_at-ends : (line start : ℕ) (bytes : List ℕ) (token : Token)
    → quoted_at line start bytes ≡ Ok token → start < token_end token
unfolding quoted_at
quoted_at-ends line start bytes token is =
    let reach : ℕ = quoted_length false bytes in
    let sound = closed-token start (sound_token line Quoted (suc start) (take reach bytes)) (drop reach bytes) token is in
    let found = sound_token-token line Quoted (suc start) (take reach bytes) token sound in
    omega (arith, found.start)

pub equals_at-ends : (line start : ℕ) (token : Token) → equals_at line start ≡ Ok token → start < token_end token
unfolding equals_at
equals_at-ends line start token is =
    let made : Token = record { kind = Equals; bytes = 61 ∷ []; start = start; line = line } in
    let same : token ≡ made = cc in
    rw same (omega arith)

-- a token ends after its place
pub piece_at-ends : (line : ℕ) (value : Bool) (start : ℕ) (bytes : List ℕ) (token : Token)
    → piece_at line value start bytes ≡ Some (Ok token) → start < token_end token
unfolding piece_at
piece_at-ends line value start [] token is = absurd (cc)
piece_at-ends line value start (byte ∷ bytes) token is = first (byte == 61) is
  where
    second : (quote : Bool) → Some (if quote then quoted_at line start bytes else word_at line value start byte bytes) ≡ Some (Ok token) → start < token_end token
    second true e = quoted_at-ends line start bytes token (cc)
    second false e = word_at-ends line value start byte bytes token (cc)

    first : (sign : Bool) → Some (if sign then equals_at line start else if byte == 34 then quoted_at line start bytes else word_at line value start byte bytes) ≡ Some (Ok token) → start < token_end token
    first true e = equals_at-ends line start token (cc)
    first false e = second (byte == 34) e

pub next_piece-ends : (text : List ℕ) (value : Bool) (place : ℕ) (token : Token)
    → next_piece text value place ≡ Some (Ok token) → place < token_end token
unfolding next_piece token_start
next_piece-ends text value place token is =
    let start : ℕ = place + blank_length false (drop place text) in
    let ends = piece_at-ends (line_at text start) value start (drop start text) token is in
    omega (arith, ends)

-- there is nothing from the end of the text on
pub next_piece-none : (text : List ℕ) (value : Bool) (place : ℕ) → length text ≤ place → next_piece text value place ≡ None
unfolding next_piece token_start piece_at
next_piece-none text value place end =
    let start : ℕ = place + blank_length false (drop place text) in
    let behind : length text ≤ start = omega arith in
    let none : drop start text ≡ [] = drop_all start text behind in
    rw (none, piece_at) refl

-- room for more pieces than there are bytes left makes no difference
pub pieces_from-room : (most : ℕ) (text : List ℕ) (value : Bool) (place : ℕ) → length text < place + most
    → pieces_from (suc most) text value place ≡ pieces_from most text value place
pieces_from-room zero text value place room =
    pieces_from-none 1 text value place (next_piece-none text value place (omega arith))
    ∙ sym (pieces_from-none 0 text value place (next_piece-none text value place (omega arith)))
pieces_from-room (suc most) text value place room =
    more (next_piece text value place) refl
    (λ token ends. pieces_from-room most text (is_equals token.kind) (token_end token) (omega (arith, ends)))
  where
    more : (found : Option Piece) → next_piece text value place ≡ found
        → ((token : Token) → place < token_end token
        → pieces_from (suc most) text (is_equals token.kind) (token_end token) ≡ pieces_from most text (is_equals token.kind) (token_end token))
        → pieces_from (suc (suc most)) text value place ≡ pieces_from (suc most) text value place
    more None is rest =
        pieces_from-none (suc (suc most)) text value place is ∙ sym (pieces_from-none (suc most) text value place is)
    more (Some (Err fault)) is rest =
        pieces_from-fault (suc most) text value place fault is ∙ sym (pieces_from-fault most text value place fault is)
    more (Some (Ok token)) is rest =
        pieces_from-token (suc most) text value place token is
        ∙ ap (λ pieces. Ok token ∷ pieces) (rest token (next_piece-ends text value place token is))
        ∙ sym (pieces_from-token most text value place token is)

-- what is counted in a part and after it
count_by-parts : (p : ℕ → Bool) (text : List ℕ) (from more : ℕ)
    → count_by p (take from text) + count_by p (take more (drop from text)) ≡ count_by p (take (from + more) text)
count_by-parts p text from more =
    let counts : ℕ → ℕ = λ byte. cond (p byte) 1 0 in
    let parts = sum_by-take-drop counts (take (from + more) text) from in
    let front : take from (take (from + more) text) ≡ take from text = take-take from (from + more) text (omega arith) in
    let back : drop from (take (from + more) text) ≡ take more (drop from text) = drop-take from more text in
    rw (front, back) at parts

-- the line of a later place
pub line_at-later : (text : List ℕ) (from place : ℕ) → from ≤ place
    → line_at text from + count_by (λ byte. byte == 10) (take (place - from) (drop from text)) ≡ line_at text place
unfolding line_at
line_at-later text from place later =
    let same : from + (place - from) ≡ place = omega arith in
    let parts = count_by-parts (λ byte. byte == 10) text from (place - from) in
    later_suc (count_by (λ byte. byte == 10) (take from text)) (count_by (λ byte. byte == 10) (take (place - from) (drop from text)))
    (count_by (λ byte. byte == 10) (take place text)) (rw same at parts)
  where
    later_suc : (a b n : ℕ) → a + b ≡ n → suc a + b ≡ suc n
    later_suc a b n e = omega arith

-- a line is at most one above the bytes before it
pub line_at-small : (text : List ℕ) (place : ℕ) → line_at text place ≤ 1 + length text
unfolding line_at
line_at-small text place =
    let few = count_by-le-length (λ byte. byte == 10) (take place text) in
    let short = length-take place text in
    small (count_by (λ byte. byte == 10) (take place text)) (length (take place text)) (length text) few
    (rw short (omega arith))
  where
    small : (a b n : ℕ) → a ≤ b → b ≤ n → suc a ≤ 1 + n
    small a b n few short = omega arith

-- what comes next, by its place and line
pub next_piece-at : (text : List ℕ) (value : Bool) (place start line : ℕ) (piece : Option Piece)
    → start ≡ place + blank_length false (drop place text) → line ≡ line_at text start
    → piece ≡ piece_at line value start (drop start text)
    → next_piece text value place ≡ piece
unfolding next_piece token_start
next_piece-at text value place start line piece from on is = rw (← from, ← on) (sym is)

-- what is left where there is nothing, a fault, or a token
pub pieces_left-none : (text : List ℕ) (value : Bool) (place : ℕ) → next_piece text value place ≡ None
    → pieces_left false text value place ≡ []
pieces_left-none text value place is = pieces_from-none (suc (length text)) text value place is

pub pieces_left-fault : (text : List ℕ) (value : Bool) (place : ℕ) (fault : TextFault)
    → next_piece text value place ≡ Some (Err fault) → pieces_left false text value place ≡ Err fault ∷ []
pieces_left-fault text value place fault is = pieces_from-fault (length text) text value place fault is

pub pieces_left-token : (text : List ℕ) (value : Bool) (place : ℕ) (token : Token)
    → next_piece text value place ≡ Some (Ok token)
    → pieces_left false text value place ≡ Ok token ∷ pieces_left false text (is_equals token.kind) (token_end token)
pieces_left-token text value place token is =
    let ends = next_piece-ends text value place token is in
    let room = pieces_from-room (length text) text (is_equals token.kind) (token_end token) (omega (arith, ends)) in
    pieces_from-token (length text) text value place token is ∙ ap (λ pieces. Ok token ∷ pieces) (sym room)

-- a text from a place on
pub take-rest : (place : ℕ) (text : List ℕ) → take (length text - place) (drop place text) ≡ drop place text
take-rest place text = rw (← length-drop place text) (take-length (drop place text))

-- what is left to one reader is left to another that is the same
pub pieces_left-same : (text : List ℕ) {refused value value' : Bool} {place place' : ℕ}
    → refused ≡ false → value ≡ value' → place ≡ place'
    → pieces_left refused text value place ≡ pieces_left false text value' place'
pieces_left-same text on same there = rw (on, same, there) refl
