-- Counts of faults, of disks and of streams: a count never falls, and stays at its last value once it is there.
use Rattle.std.specs.Prelude.{ℕ, ◌<◌}

-- the last value of a count: the greatest number of 64 bits
abbrev pub last_count : ℕ
last_count = 18446744073709551615

-- the count of faults is higher than before, or is at its last value
abbrev pub Rose : ℕ → ℕ → Type 0
Rose before now = now < last_count → before < now
