use Rattle.std.proofs.Common.{refl, arith}
use Rattle.lilo_model.specs.ConfTokens.{line_at, text_pieces}
use Rattle.conf_text.proofs.tokens.Tokens.new.Goals as goal

pub invariant_of-result : goal.invariant_of-result
unfolding line_at
invariant_of-result c = (c.requires, omega arith, omega arith, refl)

pub returns : goal.returns
unfolding text_pieces
returns c = refl
