-- The sector that a slot names.
use Rattle.std.specs.Prelude.{◌≡◌, Option, None, Some, Result, Ok, IsErr}
use Rattle.lilo_model.specs.Disks as disks
use Rattle.lilo_model.specs.Slots.{AddressFault}
use Rattle.slot_lists.specs.declared.slots.DiskSector.{DiskSector}
use Rattle.slot_lists.specs.Made.{place_view}

-- it was found, or is refused
abbrev pub Finds : Option DiskSector → Result disks.DiskSector AddressFault → Type 0
Finds (Some place) named = named ≡ Ok (place_view place)
Finds None named = IsErr named
