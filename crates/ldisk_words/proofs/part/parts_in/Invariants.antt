use Rattle.std.proofs.Common.{◌≡◌, ◌+◌, length, drop, map}
use Rattle.ldisk_model.specs.Arguments.{parts_at}
use Rattle.ldisk_words.specs.View.{part_view}
use Rattle.ldisk_words.proofs.PartLemmas.{before_parts}
use Rattle.ldisk_words.proofs.part.parts_in.Given as goal

-- the parts so far are those of the arguments so far
abbrev pub invariant-loop-at : goal.invariant-loop-at
invariant-loop-at l = record {
  parts : parts_at (drop 3 l.words) ≡ before_parts (map part_view l.parts.items) (parts_at (drop l.at l.words));
  count : length l.parts.items + 3 ≡ l.at;
}
