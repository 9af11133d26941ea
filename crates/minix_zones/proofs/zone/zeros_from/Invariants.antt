use Rattle.std.proofs.Common.{◌-◌, ◌≡◌, ◌+◌, ◌<◌, ◌≤◌, ℕ}
use Rattle.lilo_model.specs.MinixLayout.{numbers_in_zone}
use Rattle.lilo_model.specs.MinixParts.{number_in}
use Rattle.minix_layout.specs.View.{kind_view}
use Rattle.minix_zones.proofs.zone.zeros_from.Given as goal

-- the numbers so far are 0
abbrev pub invariant-loop-at : goal.invariant-loop-at
invariant-loop-at l = record {
  from : l.fn.index ≤ l.at;
  within : l.at ≤ numbers_in_zone (kind_view l.fn.kind);
  zeros : (k : ℕ) → l.fn.index + k < l.at → number_in (kind_view l.fn.kind) l.fn.bytes (l.fn.index + k) ≡ 0;
}

abbrev pub decreases-loop-at : goal.decreases-loop-at
decreases-loop-at l = l.end - l.at
