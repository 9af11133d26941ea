-- The lines so far and those of the bytes that are left are all of them.
use Rattle.std.proofs.Common.{◌≡◌, ◌+◌, ◌*◌, ◌/◌, ◌≤◌, ◌++◌, length}
use Rattle.std.specs.Slice.Iter.{chunks_rest, chunks_size}
use Rattle.memory_dump.specs.Dump.{hex_text}
use Rattle.memory_dump.proofs.dump.lines.Given as goal

abbrev pub invariant-loop-line : goal.invariant-loop-line
invariant-loop-line l =
    goal.iterator-loop-line.can_next l.line-iterator
    × goal.iterator-loop-line.is_finite l.line-iterator
    × (chunks_size l.line-iterator ≡ 32)
    × (l.lines.items ++ hex_text (chunks_rest l.line-iterator) ≡ hex_text l.piece)
    × (length l.lines.items + 2 * length (chunks_rest l.line-iterator) + (length (chunks_rest l.line-iterator) + 31) / 32 ≤ 4160)
