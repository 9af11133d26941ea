-- The sectors that slots name on the disks of the modelled PC.
use Rattle.std.specs.Prelude.{◌≡◌, ◌≤◌, ℕ, List, map, Result, Ok, Err}
use Rattle.lilo_model.specs.Disks.{Image, Machine, DiskSector, bytes_at}
use Rattle.lilo_model.specs.Checks.{◌>>=◌, with_fault, each}
use Rattle.lilo_model.specs.Slots as slots
use Rattle.lilo_model.specs.Slots.{Slot, AddressFault, place_at}
use Rattle.lilo_model.specs.Boot.{slot_bytes_at}
use Rattle.sector_address.specs.View.{slot_view}
use Rattle.sector_address.specs.declared.slot.Slot as declared
use Rattle.bios_model.specs.declared.bios.BiosFault.{BiosFault}
use Rattle.bios_model.specs.declared.bios.BiosFault.TheVariants.{NotFound, Timeout, KeysFault, OutsideRam}

-- the bytes of the sector that a slot names at an index
abbrev pub sector_bytes_at : Image → Machine → Slot → ℕ → Result (List ℕ) AddressFault
sector_bytes_at image machine slot index = place_at machine slot index >>= λ place. Ok (bytes_at image place)

-- a slot names at least one sector
abbrev pub HasSector : declared.Slot → Type 0
HasSector slot = 1 ≤ slot.count

-- the bytes of the first sector of each of some slots, unless one names none
abbrev pub slots_bytes_at : Image → Machine → List Slot → Result (List (List ℕ)) AddressFault
slots_bytes_at image machine some =
    with_fault (λ fault. slots.NotFound) (each (map (slot_bytes_at image machine) some))

-- the first sector that each of some slots names, unless one names none
abbrev pub first_places : Machine → List declared.Slot → Result (List DiskSector) AddressFault
first_places machine some = each (map (λ slot. place_at machine (slot_view slot) 0) some)

-- what was read is what the slots name, unless a disk failed
abbrev pub Reads : {A : Type 0} → Result (Unit {0}) BiosFault → A → Result A AddressFault → Type 0
Reads (Ok done) bytes named = named ≡ Ok bytes
Reads (Err NotFound) bytes named = named ≡ Err slots.NotFound
Reads (Err Timeout) bytes named = Unit {0}
Reads (Err KeysFault) bytes named = ⊥
Reads (Err OutsideRam) bytes named = ⊥
