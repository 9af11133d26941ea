-- Which plain value of the model each value of this crate stands for.
use Rattle.std.specs.Prelude.{ℕ, List, Bool, true, false, suc, length, []}
use Rattle.lilo_model.specs.Checks.{seen}
use Rattle.lilo_model.specs.ConfTokens as model
use Rattle.std.specs.Prelude.{Result, Ok, Err, ◌∷◌}
use Rattle.conf_text.specs.declared.token.Token.{Token}
use Rattle.conf_text.specs.declared.token.TokenKind.{TokenKind}
use Rattle.conf_text.specs.declared.token.TokenKind.TheVariants as kinds
use Rattle.conf_text.specs.declared.token.TextFault.{TextFault}
use Rattle.conf_text.specs.declared.token.TextFault.TheVariants as faults

-- what a token is
abbrev pub kind_view : TokenKind → model.TokenKind
kind_view kinds.Word = model.Word
kind_view kinds.Quoted = model.Quoted
kind_view kinds.Equals = model.Equals

-- a token
abbrev pub token_view : Token → model.Token
token_view token = record {
  kind = kind_view token.kind;
  bytes = token.bytes.now;
  start = token.start;
  line = token.line;
}

-- why a text can't be cut further
abbrev pub text_fault_view : TextFault → model.TextFault
text_fault_view (faults.OpenQuote place) = model.OpenQuote place
text_fault_view (faults.BadByte place) = model.BadByte place

-- a token or a fault
abbrev pub piece_view : Result Token TextFault → model.Piece
piece_view piece = seen token_view text_fault_view piece

-- the pieces that are left to a reader at a place, none where it was refused
abbrev pub pieces_left : Bool → List ℕ → Bool → ℕ → List model.Piece
pieces_left true text value place = []
pieces_left false text value place = model.pieces_from (suc (length text)) text value place

-- whether the first of some pieces is an equals sign
abbrev pub begins_with_equals : List model.Piece → Bool
begins_with_equals [] = false
begins_with_equals (Ok token ∷ pieces) = model.is_equals token.kind
begins_with_equals (Err fault ∷ pieces) = false
