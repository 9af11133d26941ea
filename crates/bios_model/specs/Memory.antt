-- The memory of the modelled PC, as the model has it.
use Rattle.std.specs.Prelude.{ℕ, List, slice_index}
use Rattle.lilo_model.specs.Place.{Memory}

-- the byte at each address, where these are the bytes from address 0 on
abbrev pub memory_of : List ℕ → Memory
memory_of bytes address = slice_index bytes address
