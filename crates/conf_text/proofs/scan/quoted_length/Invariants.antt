use Rattle.std.proofs.Common.{◌≡◌, ◌+◌, false, drop}
use Rattle.lilo_model.specs.ConfTokens.{quoted_length}
use Rattle.conf_text.proofs.scan.quoted_length.Given as goal

-- no byte so far ends the text
abbrev pub invariant-loop-index : goal.invariant-loop-index
invariant-loop-index l = quoted_length false l.bytes ≡ l.index + quoted_length l.escaped (drop l.index l.bytes)
