use Rattle.std.proofs.Common.{◌≡◌, take, length}
use Rattle.lilo_model.specs.Bytes.{with_part}
use Rattle.lilo_model.specs.MinixLayout.{bytes32_of}
use Rattle.minix_layout.proofs.inode.put_numbers32.Given as goal

abbrev pub invariant-loop-index : goal.invariant-loop-index
invariant-loop-index l = (l.part.bytes.now ≡ with_part l.initial.part.bytes.now l.at (bytes32_of (take l.index l.numbers))) × (l.part.bytes.ghost_name ≡ l.initial.part.bytes.ghost_name) × (length l.part.bytes.now ≡ length l.initial.part.bytes.now)
