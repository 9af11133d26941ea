use Rattle.std.proofs.Common.{◌≡◌, ◌++◌, take}
use Rattle.prompt_core.proofs.text.with_bytes.Given as goal

-- the text has the bytes so far after it
abbrev pub invariant-loop-byte : goal.invariant-loop-byte
invariant-loop-byte g l = l.text.items ≡ l.initial.text.items ++ take l.byte-index l.bytes
