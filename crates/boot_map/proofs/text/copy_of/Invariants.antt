use Rattle.std.proofs.Common.{◌≡◌, take}
use Rattle.boot_map.proofs.text.copy_of.Given as goal

-- the copy has the bytes so far
abbrev pub invariant-loop-byte : goal.invariant-loop-byte
invariant-loop-byte g l = l.copy.items ≡ take l.byte-index l.bytes
