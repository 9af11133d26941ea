-- The bits of one sector of a bitmap, those without a use cleared.
use Rattle.std.specs.Prelude.{◌≡◌, ◌<◌, ℕ, ◌+◌, ◌-◌, nat_le, nat_lt, Bool, not, ◌&&◌, List, length}
use Rattle.lilo_model.specs.MinixParts.{bit}
use Rattle.minix_steps.specs.Free.{free_from}
use Rattle.minix_survey.specs.declared.findings.Findings.{Findings}
use Rattle.minix_reclaim.specs.declared.bitmap.Marked.{Marked}
use Rattle.minix_reclaim.specs.Bitmap.{is_used}

-- whether the number of a bit has a use, where the first bit is that of base
abbrev pub used_bits : Marked → Findings → ℕ → ℕ → Bool
used_bits of found base at = is_used of found (base + at)

-- whether a bit is in a range and has no use
abbrev pub is_dropped : (ℕ → Bool) → ℕ → ℕ → ℕ → Bool
is_dropped used from to at = nat_le from at && nat_lt at to && not (used at)

-- whether a bit is set without a use
abbrev pub is_unused_in : (ℕ → Bool) → List ℕ → ℕ → Bool
is_unused_in used bytes at = bit bytes at && not (used at)

-- the bits of a range that have no use are cleared, and counted that were set
pub record ClearsUnused (used : ℕ → Bool) (from to : ℕ) (old new : List ℕ) (count : ℕ) : Type 0 where
  pub long : length new ≡ length old
  pub bits : (at : ℕ) → at < 4096 → bit new at ≡ (bit old at && not (is_dropped used from to at))
  pub is : count ≡ length (free_from (is_unused_in used old) from (to - from))
