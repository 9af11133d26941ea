-- The sectors that slots name, read one after another.
use Rattle.std.proofs.Common.{List, ◌++◌, ℕ, Result, Ok}
use Rattle.lilo_model.specs.Slots.{AddressFault}
use Rattle.lilo_model.specs.Checks.{◌>>=◌}

-- some sectors, and those after them
abbrev pub behind : List (List ℕ) → Result (List (List ℕ)) AddressFault → Result (List (List ℕ)) AddressFault
behind front rest = rest >>= λ sectors. Ok (front ++ sectors)
