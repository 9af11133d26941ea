use Rattle.std.proofs.Common.{suc, length, false}
use Rattle.std.specs.Prelude.{Ok}
use Rattle.lilo_model.specs.ConfTokens.{text_pieces}
use Rattle.conf_text.proofs.PieceLemmas.{pieces_from-piece, next_piece-part}
use Rattle.conf_text.proofs.laws.tokens_are_parts.Goals as goal

pub returns : goal.returns
unfolding text_pieces
returns c = λ text index token is.
    let found = pieces_from-piece (suc (length text)) text false 0 index (Ok token) is in
    (next_piece-part text found.behind found.place token found.is).part
