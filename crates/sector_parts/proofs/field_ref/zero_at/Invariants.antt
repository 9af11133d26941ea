use Rattle.std.proofs.Common.{◌≡◌, ◌<◌, ℕ, get_or}
use Rattle.sector_parts.proofs.field_ref.zero_at.Given as goal

-- no byte before this place is zero
abbrev pub invariant-loop-at : goal.invariant-loop-at
invariant-loop-at l = (k : ℕ) → k < l.at → get_or l.field k 0 ≡ 0 → ⊥
