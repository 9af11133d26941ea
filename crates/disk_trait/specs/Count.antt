-- Counts that stay at their last value.
use Rattle.std.specs.Prelude.{ℕ, ◌+◌, nat_lt, if◌then◌else◌}

-- a count of 64 bits, one more
abbrev pub risen : ℕ → ℕ
risen count = if nat_lt count 18446744073709551615 then count + 1 else count
