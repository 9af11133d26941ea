use Rattle.std.proofs.Common.{◌≡◌, ◌≤◌, ◌<◌, ◌-◌, ℕ, length, get_or}
use Rattle.lilo_model.specs.MinixParts.{zone_mark_sector}
use Rattle.minix_layout.specs.View.{super_view}
use Rattle.minix_fill.proofs.mark.count_together.Given as goal

-- the bits of the first zones are in one sector
abbrev pub invariant-loop-many : goal.invariant-loop-many
invariant-loop-many l = record {
  some : 0 < l.many;
  within : l.many ≤ length l.zones;
  together : (k : ℕ) → k < l.many → zone_mark_sector (super_view l.layout) (get_or l.zones k 0) ≡ l.sector;
}

abbrev pub decreases-loop-many : goal.decreases-loop-many
decreases-loop-many l = length l.zones - l.many
