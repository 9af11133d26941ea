-- Laws of counts of faults that rose.
use Rattle.std.proofs.Common.{ℕ, ◌≤◌, arith}
use Rattle.lilo_model.specs.Faults.{Rose}

-- a count that rose after it stayed or rose
pub rose_after : (a b c : ℕ) → a ≤ b → Rose b c → Rose a c
rose_after a b c later rose below = let risen = rose below in omega (arith, later, risen)

-- a count that rose, and then stayed or rose
pub rose_still : (a b c : ℕ) → Rose a b → b ≤ c → Rose a c
rose_still a b c rose later below = omega (arith, rose)
