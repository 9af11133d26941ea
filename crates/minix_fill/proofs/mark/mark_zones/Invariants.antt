use Rattle.std.proofs.Common.{◌≤◌, ◌-◌, length, take, Ok}
use Rattle.minix_fill.specs.Marks.{MarksZones}
use Rattle.minix_fill.proofs.mark.mark_zones.Given as goal

-- the bits of the first zones are set
abbrev pub invariant-loop-at : goal.invariant-loop-at
invariant-loop-at g l = record {
  within : l.at ≤ length l.zones;
  marks : MarksZones l.fn.volume l.volume (take l.at l.zones) (Ok tt);
}

abbrev pub decreases-loop-at : goal.decreases-loop-at
decreases-loop-at g l = length l.zones - l.at
