use Rattle.std.proofs.Common.{◌≡◌, ◌<◌, ◌+◌, ◌*◌, ℕ, get_or}
use Rattle.ldisk_model.specs.MinixFormat.{map_byte}
use Rattle.minix_format.proofs.bitmap.map_sector.Given as goal

abbrev pub invariant-loop-at : goal.invariant-loop-at
invariant-loop-at l = (k : ℕ) → k < l.at → get_or l.byte-items k 0 ≡ map_byte l.last (4096 * l.sector + 8 * k)
