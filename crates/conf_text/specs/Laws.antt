-- What holds of the pieces of a text, as laws.
use Rattle.std.specs.Prelude.{◌≡◌, ◌+◌, ◌<◌, ◌≤◌, ℕ, suc, List, length, Some, Ok, Err, slice_get}
use Rattle.lilo_model.specs.Bytes.{part_of}
use Rattle.lilo_model.specs.ConfTokens.{Token, TextFault, text_pieces}

-- a token's bytes are those of the text from its start on
abbrev pub PartLaw : Type 0
PartLaw =
    (text : List ℕ) (index : ℕ) (token : Token) → slice_get (text_pieces text) index ≡ Some (Ok token)
    → token.bytes ≡ part_of text token.start (length token.bytes)

-- a token starts after the bytes of the one before it, and after its start
abbrev pub RiseLaw : Type 0
RiseLaw =
    (text : List ℕ) (index : ℕ) (one next : Token) → slice_get (text_pieces text) index ≡ Some (Ok one)
    → slice_get (text_pieces text) (suc index) ≡ Some (Ok next)
    → (one.start < next.start) × (one.start + length one.bytes ≤ next.start)

-- a fault is the last piece
abbrev pub LastLaw : Type 0
LastLaw =
    (text : List ℕ) (index : ℕ) (fault : TextFault) → slice_get (text_pieces text) index ≡ Some (Err fault)
    → length (text_pieces text) ≡ suc index
