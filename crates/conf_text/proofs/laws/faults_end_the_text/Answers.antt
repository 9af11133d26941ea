use Rattle.std.proofs.Common.{suc, length, false}
use Rattle.lilo_model.specs.ConfTokens.{text_pieces}
use Rattle.conf_text.proofs.PieceLemmas.{pieces_from-last}
use Rattle.conf_text.proofs.laws.faults_end_the_text.Goals as goal

pub returns : goal.returns
unfolding text_pieces
returns c = λ text index fault is. pieces_from-last (suc (length text)) text false 0 index fault is
