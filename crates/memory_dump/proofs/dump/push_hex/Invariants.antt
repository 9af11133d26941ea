-- The digits of the bytes so far are in the text.
use Rattle.std.proofs.Common.{◌≡◌, ◌+◌, ◌*◌, ◌++◌, take, length}
use Rattle.std.specs.List.{flat_map}
use Rattle.lilo_model.specs.Bytes.{hex_byte}
use Rattle.memory_dump.proofs.dump.push_hex.Given as goal

abbrev pub invariant-loop-byte : goal.invariant-loop-byte
invariant-loop-byte g l = record {
  digits : l.text.items ≡ l.initial.text.items ++ flat_map hex_byte (take l.byte-index l.bytes);
  long : length l.text.items ≡ length l.initial.text.items + 2 * l.byte-index;
}
