use Rattle.std.proofs.Common.{◌≡◌, ◌+◌, false, drop}
use Rattle.lilo_model.specs.ConfTokens.{blank_length}
use Rattle.conf_text.proofs.scan.blank_length.Given as goal

-- the bytes so far are blank
abbrev pub invariant-loop-index : goal.invariant-loop-index
invariant-loop-index l = blank_length false l.bytes ≡ l.index + blank_length l.comment (drop l.index l.bytes)
