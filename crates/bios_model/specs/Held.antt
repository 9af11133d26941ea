-- Memory of which only the bytes up to some end are held. Those after them are zero.
use Rattle.std.specs.Prelude.{ℕ, ◌++◌, ◌-◌, List, length, replicate}

-- the bytes of a memory of so many, of which these are held
abbrev pub whole_memory : ℕ → List ℕ → List ℕ
whole_memory size held = held ++ replicate (size - length held) 0
