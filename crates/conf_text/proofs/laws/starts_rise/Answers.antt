use Rattle.std.proofs.Common.{suc, length, false, arith}
use Rattle.std.specs.Prelude.{Ok}
use Rattle.lilo_model.specs.ConfTokens.{text_pieces, is_equals, token_end}
use Rattle.conf_text.proofs.PieceLemmas.{pieces_from-piece, pieces_from-next, next_piece-part}
use Rattle.conf_text.proofs.laws.starts_rise.Goals as goal

pub returns : goal.returns
unfolding text_pieces
returns c = λ text index one next is then.
    let found = pieces_from-piece (suc (length text)) text false 0 index (Ok one) is in
    let before = next_piece-part text found.behind found.place one found.is in
    let behind = pieces_from-next (suc (length text)) text false 0 index one (Ok next) is then in
    let after = next_piece-part text (is_equals one.kind) (token_end one) next behind in
    (omega (arith, before.ends, after.from), omega (arith, after.from))
