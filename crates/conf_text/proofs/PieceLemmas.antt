-- Where a piece comes from, and what comes after it.
use Rattle.std.proofs.Common.{◌≡◌, ℕ, zero, suc, ◌+◌, ◌<◌, ◌≤◌, List, [], ◌∷◌, Bool, true, false, refl, sym, ◌∙◌, ap, length, drop, take, add-one, arith}
use Rattle.std.proofs.lemmas.Bool.{eqb-true}
use Rattle.std.specs.Prelude.{Option, None, Some, Ok, Err, slice_get, ◌==◌, if◌then◌else◌}
use Rattle.std.specs.List.{take_while, prefix_len}
use Rattle.std.proofs.lemmas.List.{length-take, take_min}
use Rattle.std.proofs.Math.Seq.{drop-drop}
use Rattle.lilo_model.specs.Bytes.{part_of}
use Rattle.lilo_model.specs.ConfTokens.{Word, Quoted, Equals, Token, TextFault, Piece, is_of_word, line_at, blank_length, quoted_length, sound_token, word_at, quoted_at, equals_at, token_start, piece_at, next_piece, token_end, is_equals, pieces_from}
use Rattle.conf_text.proofs.TokensLemmas.{sound_token-token, closed-token, pieces_from-none, pieces_from-fault, pieces_from-token}

-- a piece comes first from some place on, after an equals sign or not
pub record IsPieceOf (text : List ℕ) (piece : Piece) : Type 0 where
  pub behind : Bool
  pub place : ℕ
  pub is : next_piece text behind place ≡ Some piece

-- each piece comes first from a place on
pub pieces_from-piece : (most : ℕ) (text : List ℕ) (value : Bool) (place index : ℕ) (piece : Piece)
    → slice_get (pieces_from most text value place) index ≡ Some piece → IsPieceOf text piece
unfolding pieces_from
pieces_from-piece zero text value place index piece is = absurd (cc)
pieces_from-piece (suc most) text value place index piece is =
    at (next_piece text value place) refl index is
    (λ token i. pieces_from-piece most text (is_equals token.kind) (token_end token) i piece)
  where
    at : (found : Option Piece) → next_piece text value place ≡ found → (i : ℕ)
        → slice_get (pieces_from (suc most) text value place) i ≡ Some piece
        → ((token : Token) (j : ℕ) → slice_get (pieces_from most text (is_equals token.kind) (token_end token)) j ≡ Some piece → IsPieceOf text piece)
        → IsPieceOf text piece
    at None none i is rest =
        let e = rw (pieces_from-none (suc most) text value place none) at is in absurd (cc)
    at (Some (Err fault)) first zero is rest =
        let e = rw (pieces_from-fault most text value place fault first) at is in
        record { behind = value; place = place; is = first ∙ e }
    at (Some (Err fault)) first (suc i) is rest =
        let e = rw (pieces_from-fault most text value place fault first) at is in absurd (cc)
    at (Some (Ok token)) first zero is rest =
        let e = rw (pieces_from-token most text value place token first) at is in
        record { behind = value; place = place; is = first ∙ e }
    at (Some (Ok token)) first (suc i) is rest =
        rest token i (rw (pieces_from-token most text value place token first) at is)

-- a token is a part of the text, from a place on, and ends after its start
pub record IsPart (text : List ℕ) (place : ℕ) (token : Token) : Type 0 where
  pub part : token.bytes ≡ part_of text token.start (length token.bytes)
  pub from : place ≤ token.start
  pub ends : token.start < token_end token

-- the first bytes of a list are as many as they are
take-part : (n : ℕ) (xs bytes : List ℕ) → bytes ≡ take n xs → bytes ≡ take (length bytes) xs
take-part n xs bytes is =
    let whole : take (length (take n xs)) xs ≡ take n xs = rw length-take (take_min n xs) in
    rw is (sym whole)

-- a part from a place on
part-of : (text : List ℕ) (start n : ℕ) (bytes : List ℕ) → bytes ≡ take n (drop start text)
    → bytes ≡ part_of text start (length bytes)
part-of text start n bytes is = take-part n (drop start text) bytes is

-- what is after the first byte
drop-behind : (text : List ℕ) (start byte : ℕ) (bytes : List ℕ) → drop start text ≡ byte ∷ bytes
    → drop (suc start) text ≡ bytes
drop-behind text start byte bytes is =
    let one : drop 1 (drop start text) ≡ drop (start + 1) text = drop-drop 1 start text in
    let here : drop 1 (drop start text) ≡ bytes = rw is refl in
    rw (← add-one start) (sym one ∙ here)

word_at-part : (text : List ℕ) (line : ℕ) (value : Bool) (start byte : ℕ) (bytes : List ℕ) (token : Token)
    → drop start text ≡ byte ∷ bytes → word_at line value start byte bytes ≡ Ok token → IsPart text start token
unfolding word_at
word_at-part text line value start byte bytes token at is =
    let found = sound_token-token line Word start (byte ∷ take_while (is_of_word value) bytes) token is in
    let reach : ℕ = prefix_len (is_of_word value) bytes in
    let part = part-of text start (suc reach) (byte ∷ take_while (is_of_word value) bytes) (rw at refl) in
    record {
      part = rw (found.start, found.bytes) part;
      from = rw found.start (omega arith);
      ends = rw (found.start, found.bytes) (omega arith);
    }

quoted_at-part : (text : List ℕ) (line start byte : ℕ) (bytes : List ℕ) (token : Token)
    → drop start text ≡ byte ∷ bytes → quoted_at line start bytes ≡ Ok token → IsPart text start token
unfolding quoted_at
quoted_at-part text line start byte bytes token at is =
    let reach : ℕ = quoted_length false bytes in
    let sound = closed-token start (sound_token line Quoted (suc start) (take reach bytes)) (drop reach bytes) token is in
    let found = sound_token-token line Quoted (suc start) (take reach bytes) token sound in
    let behind = drop-behind text start byte bytes at in
    let part = part-of text (suc start) reach (take reach bytes) (rw behind refl) in
    record {
      part = rw (found.start, found.bytes) part;
      from = rw found.start (omega arith);
      ends = rw (found.start, found.kind) (omega arith);
    }

equals_at-part : (text : List ℕ) (line start byte : ℕ) (bytes : List ℕ) (token : Token)
    → drop start text ≡ byte ∷ bytes → byte ≡ 61 → equals_at line start ≡ Ok token → IsPart text start token
unfolding equals_at
equals_at-part text line start byte bytes token at sign is =
    let made : Token = record { kind = Equals; bytes = 61 ∷ []; start = start; line = line } in
    let same : token ≡ made = cc in
    let part : 61 ∷ [] ≡ take 1 (drop start text) = rw (at, sign) refl in
    rw same (record { part = part; from = omega arith; ends = omega arith })

-- what is at a place is a part from there on
piece_at-part : (text : List ℕ) (line : ℕ) (value : Bool) (start : ℕ) (bytes : List ℕ) (token : Token)
    → drop start text ≡ bytes → piece_at line value start bytes ≡ Some (Ok token) → IsPart text start token
unfolding piece_at
piece_at-part text line value start [] token at is = absurd (cc)
piece_at-part text line value start (byte ∷ bytes) token at is = first (byte == 61) refl is
  where
    second : (quote : Bool) → Some (if quote then quoted_at line start bytes else word_at line value start byte bytes) ≡ Some (Ok token) → IsPart text start token
    second true e = quoted_at-part text line start byte bytes token at (cc)
    second false e = word_at-part text line value start byte bytes token at (cc)

    first : (sign : Bool) → (byte == 61) ≡ sign → Some (if sign then equals_at line start else if byte == 34 then quoted_at line start bytes else word_at line value start byte bytes) ≡ Some (Ok token) → IsPart text start token
    first true sign e = equals_at-part text line start byte bytes token at (eqb-true byte 61 sign) (cc)
    first false sign e = second (byte == 34) e

pub next_piece-part : (text : List ℕ) (value : Bool) (place : ℕ) (token : Token)
    → next_piece text value place ≡ Some (Ok token) → IsPart text place token
unfolding next_piece token_start
next_piece-part text value place token is =
    let start : ℕ = place + blank_length false (drop place text) in
    let part = piece_at-part text (line_at text start) value start (drop start text) token refl is in
    record { part = part.part; from = omega (arith, part.from); ends = part.ends }

-- the first piece is what comes first
pub pieces_from-head : (most : ℕ) (text : List ℕ) (value : Bool) (place : ℕ) (piece : Piece)
    → slice_get (pieces_from most text value place) 0 ≡ Some piece → next_piece text value place ≡ Some piece
unfolding pieces_from
pieces_from-head zero text value place piece is = absurd (cc)
pieces_from-head (suc most) text value place piece is = at (next_piece text value place) refl
  where
    at : (found : Option Piece) → next_piece text value place ≡ found → next_piece text value place ≡ Some piece
    at None none = let e = rw (pieces_from-none (suc most) text value place none) at is in absurd (cc)
    at (Some (Err fault)) first = let e = rw (pieces_from-fault most text value place fault first) at is in first ∙ e
    at (Some (Ok token)) first = let e = rw (pieces_from-token most text value place token first) at is in first ∙ e

-- after a token comes the piece that is first from its end on
pub pieces_from-next : (most : ℕ) (text : List ℕ) (value : Bool) (place index : ℕ) (token : Token) (piece : Piece)
    → slice_get (pieces_from most text value place) index ≡ Some (Ok token)
    → slice_get (pieces_from most text value place) (suc index) ≡ Some piece
    → next_piece text (is_equals token.kind) (token_end token) ≡ Some piece
unfolding pieces_from
pieces_from-next zero text value place index token piece is next = absurd (cc)
pieces_from-next (suc most) text value place index token piece is next =
    at (next_piece text value place) refl index is next
    (λ t i. pieces_from-next most text (is_equals t.kind) (token_end t) i token piece)
  where
    at : (found : Option Piece) → next_piece text value place ≡ found → (i : ℕ)
        → slice_get (pieces_from (suc most) text value place) i ≡ Some (Ok token)
        → slice_get (pieces_from (suc most) text value place) (suc i) ≡ Some piece
        → ((t : Token) (j : ℕ) → slice_get (pieces_from most text (is_equals t.kind) (token_end t)) j ≡ Some (Ok token)
        → slice_get (pieces_from most text (is_equals t.kind) (token_end t)) (suc j) ≡ Some piece
        → next_piece text (is_equals token.kind) (token_end token) ≡ Some piece)
        → next_piece text (is_equals token.kind) (token_end token) ≡ Some piece
    at None none i here there rest = let e = rw (pieces_from-none (suc most) text value place none) at here in absurd (cc)
    at (Some (Err fault)) first i here there rest =
        let e = rw (pieces_from-fault most text value place fault first) at there in absurd (cc)
    at (Some (Ok t)) first zero here there rest =
        let e = rw (pieces_from-token most text value place t first) at here in
        let same : t ≡ token = cc in
        let f = rw (pieces_from-token most text value place t first) at there in
        pieces_from-head most text (is_equals token.kind) (token_end token) piece (rw same at f)
    at (Some (Ok t)) first (suc i) here there rest =
        rest t i (rw (pieces_from-token most text value place t first) at here)
        (rw (pieces_from-token most text value place t first) at there)

-- a fault is last
pub pieces_from-last : (most : ℕ) (text : List ℕ) (value : Bool) (place index : ℕ) (fault : TextFault)
    → slice_get (pieces_from most text value place) index ≡ Some (Err fault)
    → length (pieces_from most text value place) ≡ suc index
unfolding pieces_from
pieces_from-last zero text value place index fault is = absurd (cc)
pieces_from-last (suc most) text value place index fault is =
    at (next_piece text value place) refl index is
    (λ t i. pieces_from-last most text (is_equals t.kind) (token_end t) i fault)
  where
    at : (found : Option Piece) → next_piece text value place ≡ found → (i : ℕ)
        → slice_get (pieces_from (suc most) text value place) i ≡ Some (Err fault)
        → ((t : Token) (j : ℕ) → slice_get (pieces_from most text (is_equals t.kind) (token_end t)) j ≡ Some (Err fault)
        → length (pieces_from most text (is_equals t.kind) (token_end t)) ≡ suc j)
        → length (pieces_from (suc most) text value place) ≡ suc i
    at None none i here rest = let e = rw (pieces_from-none (suc most) text value place none) at here in absurd (cc)
    at (Some (Err other)) first zero here rest = rw (pieces_from-fault most text value place other first) refl
    at (Some (Err other)) first (suc i) here rest =
        let e = rw (pieces_from-fault most text value place other first) at here in absurd (cc)
    at (Some (Ok t)) first zero here rest =
        let e = rw (pieces_from-token most text value place t first) at here in absurd (cc)
    at (Some (Ok t)) first (suc i) here rest =
        rw (pieces_from-token most text value place t first)
        (ap suc (rest t i (rw (pieces_from-token most text value place t first) at here)))
