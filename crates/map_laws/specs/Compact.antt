-- What `compact` makes of slots.
use Rattle.std.specs.Prelude.{List}
use Rattle.lilo_model.specs.Disks.{Machine}
use Rattle.lilo_model.specs.Slots.{Slot}
use Rattle.lilo_model.specs.Lays.{AreApart}
use Rattle.lilo_model.specs.Plan.{compact_slots}

-- no two neighbours that are left could be one
abbrev pub CompactLaw : Type 0
CompactLaw = (machine : Machine) (slots : List Slot) → AreApart machine (compact_slots machine slots)
