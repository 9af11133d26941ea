-- The two sectors of a 1024-byte block.
use Rattle.std.specs.Prelude.{ℕ, Bool, if◌then◌else◌}

-- where a half of a block starts
abbrev pub half_at : Bool → ℕ
half_at second = if second then 512 else 0
