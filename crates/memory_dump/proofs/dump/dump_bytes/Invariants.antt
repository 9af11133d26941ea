-- What is shown so far and the lines of the bytes that are left are all of them.
use Rattle.std.proofs.Common.{◌≡◌, ℕ, List, ◌++◌}
use Rattle.std.specs.Slice.Iter.{chunks_rest, chunks_size}
use Rattle.stream_trait.specs.Shows.{Shows, sink_of}
use Rattle.memory_dump.specs.Dump.{hex_text}
use Rattle.memory_dump.proofs.dump.dump_bytes.Given as goal

abbrev pub invariant-loop-piece : goal.invariant-loop-piece
invariant-loop-piece g l =
    let sink = g.O.Sink in
    (goal.iterator-loop-piece g).can_next l.piece-iterator
    × (goal.iterator-loop-piece g).is_finite l.piece-iterator
    × (chunks_size l.piece-iterator ≡ 2048)
    × (l.out.out.ghost_name ≡ l.initial.out.out.ghost_name)
    × ((shown : List ℕ)
    × Shows (sink_of sink l.initial.out) shown (sink_of sink l.out)
    × (shown ++ hex_text (chunks_rest l.piece-iterator) ≡ hex_text l.bytes))
