-- The next block that gets a zone.
use Rattle.std.proofs.Common.{◌≡◌, ◌≢◌, ◌≤◌, ◌<◌, ℕ, List, length, arith}
use Rattle.std.specs.Prelude.{slice_index}
use Rattle.minix_create.specs.Chosen.{IsNextBlock}

pub next_here : (zones : List ℕ) (from at : ℕ) → from ≤ at → at < length zones → slice_index zones at ≢ 0 → ((i : ℕ) → from ≤ i → i < at → slice_index zones i ≡ 0) → IsNextBlock zones from at
next_here zones from at after inside some holes = record { from_on = after; there = omega (arith, inside); some = λ low. some; holes = holes }

pub next_end : (zones : List ℕ) (from : ℕ) → from ≤ length zones → ((i : ℕ) → from ≤ i → i < length zones → slice_index zones i ≡ 0) → IsNextBlock zones from (length zones)
next_end zones from fits holes = record { from_on = fits; there = omega arith; some = λ low. absurd (omega (arith, low)); holes = holes }
