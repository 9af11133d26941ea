-- When an answer is the definition's, and what each refusal says.
use Rattle.std.specs.Prelude.{◌≡◌, ◌<◌, ℕ, List, Result, Ok, Err}
use Rattle.lilo_model.specs.Faults.{Rose}
use Rattle.minix_steps.specs.declared.bit_fault.BitFault.{BitFault}
use Rattle.minix_steps.specs.declared.bit_fault.BitFault.TheVariants as faults
use Rattle.minix_steps.specs.Free.{Shortage}

-- What was answered is what the definition gives, unless the disk failed or there was no memory.
abbrev pub Gives : Result (List ℕ) BitFault → Result (List ℕ) Shortage → Type 0
Gives (Ok zones) found = found ≡ Ok zones
Gives (Err (faults.NoSpace need short)) found = found ≡ Err (record { need = need; found = short })
Gives (Err faults.Device) found = Unit {0}
Gives (Err faults.Memory) found = Unit {0}

-- The cause of a refusal of one sector, which knows no shortage.
abbrev pub HasSectorCause : ℕ → ℕ → BitFault → Type 0
HasSectorCause before now (faults.NoSpace need found) = ⊥
HasSectorCause before now faults.Device = Rose before now
HasSectorCause before now faults.Memory = Unit {0}

-- The cause of a refusal: where the disk failed, the count of faults rose; too few are fewer than needed; and there was
-- no memory only where some are needed.
abbrev pub HasBitCause : ℕ → ℕ → ℕ → BitFault → Type 0
HasBitCause needed before now (faults.NoSpace need found) = (need ≡ needed) × (found < needed)
HasBitCause needed before now faults.Device = Rose before now
HasBitCause needed before now faults.Memory = 0 < needed
