-- Which slots eight bytes can name.
use Rattle.std.specs.Prelude.{◌≤◌, ◌<◌, ◌^◌}
use Rattle.lilo_model.specs.Slots.{Address, Chs, Linear, Lba32, Slot}

-- each number of an address is in the range of its bits
abbrev pub IsAddress : Address → Type 0
IsAddress (Chs cylinder head sector) = (cylinder ≤ 1023) × (head ≤ 255) × (1 ≤ sector) × (sector ≤ 63)
IsAddress (Linear number) = number < 2 ^ 32
IsAddress (Lba32 number) = number < 2 ^ 32

-- a slot that eight bytes can name
pub record IsSlot (slot : Slot) : Type 0 where
  pub disk : slot.disk ≤ 3
  pub some : 1 ≤ slot.count
  pub few : slot.count ≤ 127
  pub address : IsAddress slot.address
