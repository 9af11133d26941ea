use Rattle.std.proofs.Common.{◌≢◌, ◌≤◌, ◌<◌, ℕ}
use Rattle.std.specs.Prelude.{slice_index}
use Rattle.minix_create.proofs.grown.are_data.Given as goal

-- the first are data zones, each another one
abbrev pub invariant-loop-at : goal.invariant-loop-at
invariant-loop-at l = record {
  from : (level : ℕ) → level < l.at → l.layout.first ≤ slice_index l.zones level;
  below : (level : ℕ) → level < l.at → slice_index l.zones level < l.layout.zones;
  apart : (level other : ℕ) → level < other → other < l.at → slice_index l.zones other ≢ slice_index l.zones level;
}
