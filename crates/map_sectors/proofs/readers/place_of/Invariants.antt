use Rattle.std.proofs.Common.{◌≡◌, ◌+◌, drop}
use Rattle.std.specs.Prelude.{bytes_eq}
use Rattle.std.specs.List.{position_or_len}
use Rattle.map_sectors.proofs.readers.place_of.Given as goal

-- the name is none of those so far
abbrev pub invariant-loop-other : goal.invariant-loop-other
invariant-loop-other l = record {
  at : l.place ≡ l.other-index;
  so : position_or_len (λ other. bytes_eq other l.name) l.names ≡ l.other-index + position_or_len (λ other. bytes_eq other l.name) (drop l.other-index l.names);
}
