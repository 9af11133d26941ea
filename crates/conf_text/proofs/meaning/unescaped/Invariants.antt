use Rattle.std.proofs.Common.{◌≡◌, ◌++◌, false, drop}
use Rattle.lilo_model.specs.ConfTokens.{unescaped}
use Rattle.conf_text.proofs.meaning.unescaped.Given as goal

-- what the bytes so far mean, and the others
abbrev pub invariant-loop-byte : goal.invariant-loop-byte
invariant-loop-byte l = unescaped false l.bytes ≡ l.meant.items ++ unescaped l.escaped (drop l.byte-index l.bytes)
